use Rattle.std.proofs.Common.{◌≡◌, ◌∙◌, ℕ, ◌∷◌, List, Option, None, Some, refl, sym, ap, subst, arith}
use Rattle.std.proofs.lemmas.Result.{IfOk-weaker}
use Rattle.ot_logic.specs.Names.{Name}
use Rattle.ot_logic.specs.Trees.{Ty, Tm, Abs}
use Rattle.ot_logic.proofs.Results.{on_ok}
use Rattle.ot_logic.proofs.TableLemmas.{Extends-refl, Extends-trans}
use Rattle.ot_log_nodes.specs.Items.{Item, type_at, term_at}
use Rattle.ot_log_nodes.specs.Lists.{types_of}
use Rattle.ot_log_nodes.specs.Places.{ArePlaces}
use Rattle.ot_log_nodes.specs.Below.{AreTermsBelow}
use Rattle.ot_log_nodes.specs.Table.{term_tree, HasTermParts}
use Rattle.ot_log_nodes.specs.Typing.{binders_at, HasTyping, IsTyping, IsCut, AreTypings}
use Rattle.ot_log_nodes.proofs.ItemLemmas.{type-stays, term-stays, still-term}
use Rattle.ot_log_nodes.proofs.PlaceLemmas.{places-grown, place_tables-grown}
use Rattle.ot_log_nodes.proofs.TypingLemmas.{typing-grown, typings-grown, typings-kept, binders-grown, binders-same}
use Rattle.ot_log_nodes.proofs.TypingLemmas.{typing-cut}
use Rattle.ot_log_nodes.specs.declared.table.typing.Entries.{Entries}
use Rattle.ot_log_nodes.specs.declared.table.typing.Typed.{Typed}
use Rattle.ot_log_nodes.proofs.table.Nodes.+typing.Goals as goal
use Rattle.ot_log_nodes.proofs.table.Nodes.+typing.Goals.{typing_under-In_ok-near}

-- a term has no type where none is found
no-typing : (ts : List Item) (l : List (Ty Name)) (t : Tm Name) (o : Option Typed) → IsTyping ts l t o
    → ((r : Typed) → o ≡ Some r → ⊥) → IsTyping ts l t None
no-typing ts l t None h other = h
no-typing ts l t (Some r) h other = absurd (other r refl)

-- what is known once the places are
module _ (t : ℕ) (c : typing_under-In_ok-near t) where
  abbrev found : Entries
  found = record { lists = c.near.new.lists; places = c.places_of.new.tables; types = c.args.known.now.types }

  are-known : AreTypings c.args.self.now found
  are-known =
      let ts = c.args.self.now in
      let none = Extends-refl ts in
      let later = Extends-trans c.in_ok-places.ensures.lists c.in_ok-near.ensures.lists in
      typings-kept ts ts none c.args.known.now found later refl
      (place_tables-grown c.places_of.new.lists c.near.new.lists c.in_ok-near.ensures.lists ts ts none
      c.places_of.new.tables c.in_ok-places.ensures.known) c.requires.known

  -- the binders that count are taken of those around
  is-cut : IsCut c.args.self.now (binders_at c.args.self.now (types_of c.args.known.now.lists c.args.binders))
      (term_at c.args.self.now c.args.id) (types_of c.near.new.lists c.in_ok-near.near)
  is-cut =
      let ts = c.args.self.now in
      subst (λ l. IsCut ts l (term_at ts c.args.id) (types_of c.near.new.lists c.in_ok-near.near))
      (binders-same ts ts (Extends-refl ts) c.args.known.now.lists c.places_of.new.lists c.in_ok-places.ensures.lists
      c.args.binders c.requires.binders) c.in_ok-near.ensures.cut

pub typing_under-near-requires-clause-binders : goal.typing_under-near-requires-clause-binders
typing_under-near-requires-clause-binders t c =
    let ts = c.args.self.now in
    binders-grown ts ts (Extends-refl ts) c.args.known.now.lists c.places_of.new.lists c.in_ok-places.ensures.lists
    c.args.binders c.requires.binders

pub typing_under-known_typing-found-requires : goal.typing_under-known_typing-found-requires
typing_under-known_typing-found-requires t c =
    are-known t (goal.at.typing_under-known_typing-found-requires t c).In_ok-near

pub typing_under-returns-in-Some-clause-ok : goal.typing_under-returns-in-Some-clause-ok
typing_under-returns-in-Some-clause-ok t c =
    let ts = c.args.self.now in
    typing-cut ts ts (binders_at ts (types_of c.args.known.now.lists c.args.binders)) (term_at ts c.args.id)
    (types_of c.near.new.lists c.in_ok-near.near) (Some c.in-Some.typed)
    (is-cut t (goal.at.typing_under-returns-in-Some-clause-ok t c).In_ok-near)
    (c.known_typing-found.ensures c.in-Some.typed c.in-Some.is)

pub typing_under-returns-in-Some-clause-known : goal.typing_under-returns-in-Some-clause-known
typing_under-returns-in-Some-clause-known t c =
    are-known t (goal.at.typing_under-returns-in-Some-clause-known t c).In_ok-near

pub typing_under-typing_node-requires-2 : goal.typing_under-typing_node-requires-2
typing_under-typing_node-requires-2 t c = (
  omega arith,
  (
    c.requires.id,
    (c.in_ok-near.ensures.binders, are-known t (goal.at.typing_under-typing_node-requires-2 t c).In_ok-near),
  ),
)

pub typing_under-returns-in_default-typing-clause-ok : goal.typing_under-returns-in_default-typing-clause-ok
typing_under-returns-in_default-typing-clause-ok t c =
    let ts = c.args.self.now in
    let us = c.typing_node-2.new.self in
    let near = types_of c.near.new.lists c.in_ok-near.near in
    typing-cut ts us (binders_at ts (types_of c.args.known.now.lists c.args.binders)) (term_at ts c.args.id) near None
    (is-cut t (goal.at.typing_under-returns-in_default-typing-clause-ok t c).In_ok-near)
    (no-typing us (binders_at ts near) (term_at ts c.args.id) c.in_ok-typing.typing c.in_ok-typing.ensures.ok
    c.in_default-typing.not-Some)

pub typing_under-keep_typing-requires-clause-id : goal.typing_under-keep_typing-requires-clause-id
typing_under-keep_typing-requires-clause-id t c =
    still-term c.args.self.now c.typing_node-2.new.self c.in_ok-typing.ensures.extends c.args.id c.requires.id

pub typing_under-keep_typing-requires-clause-typed : goal.typing_under-keep_typing-requires-clause-typed
typing_under-keep_typing-requires-clause-typed t c =
    let ts = c.args.self.now in
    let us = c.typing_node-2.new.self in
    let near = c.in_ok-near.near in
    let typed = c.in-Some-typing.typed in
    let binders = binders-same ts us c.in_ok-typing.ensures.extends c.near.new.lists c.typing_node-2.new.known.lists
    c.in_ok-typing.ensures.lists near c.in_ok-near.ensures.binders in
    let term = term-stays ts us c.in_ok-typing.ensures.extends c.args.id c.requires.id in
    let is = subst (IsTyping us (binders_at ts (types_of c.near.new.lists near)) (term_at ts c.args.id))
    c.in-Some-typing.is c.in_ok-typing.ensures.ok in
    subst (λ (l : List (Ty Name)). HasTyping us l (term_at us c.args.id) typed) (sym binders)
    (subst (λ u. HasTyping us (binders_at ts (types_of c.near.new.lists near)) u typed) (sym term) is)

pub typing_under-keep_typing-requires-clause-places : goal.typing_under-keep_typing-requires-clause-places
typing_under-keep_typing-requires-clause-places t c =
    let ts = c.args.self.now in
    let us = c.typing_node-2.new.self in
    let lists = c.typing_node-2.new.known.lists in
    subst (ArePlaces lists c.in_ok-places.places.list)
    (sym (term-stays ts us c.in_ok-typing.ensures.extends c.args.id c.requires.id))
    (places-grown c.places_of.new.lists lists
    (Extends-trans c.in_ok-near.ensures.lists c.in_ok-typing.ensures.lists) c.in_ok-places.places.list
    (term_at ts c.args.id) c.in_ok-places.ensures.ok)

pub typing_under-keep_typing-requires-clause-binders : goal.typing_under-keep_typing-requires-clause-binders
typing_under-keep_typing-requires-clause-binders t c =
    binders-grown c.args.self.now c.typing_node-2.new.self c.in_ok-typing.ensures.extends c.near.new.lists
    c.typing_node-2.new.known.lists c.in_ok-typing.ensures.lists c.in_ok-near.near c.in_ok-near.ensures.binders

pub typing_under-returns-clause-ok : goal.typing_under-returns-clause-ok
typing_under-returns-clause-ok t c =
    let ts = c.args.self.now in
    let us = c.typing_node-2.new.self in
    typing-cut ts us (binders_at ts (types_of c.args.known.now.lists c.args.binders)) (term_at ts c.args.id)
    (types_of c.near.new.lists c.in_ok-near.near) (Some c.in-Some-typing.typed)
    (is-cut t (goal.at.typing_under-returns-clause-ok t c).In_ok-near)
    (subst (IsTyping us (binders_at ts (types_of c.near.new.lists c.in_ok-near.near)) (term_at ts c.args.id))
    c.in-Some-typing.is c.in_ok-typing.ensures.ok)

pub typing_node-typing_under-requires-in-App : goal.typing_node-typing_under-requires-in-App
typing_node-typing_under-requires-in-App t c =
    let ts = c.args.self.now in
    let us = c.typing_under.new.self in
    let d = c.in_ok-f-in-App.ensures.extends in
    let parts = subst (HasTermParts ts) c.in-App.is c.term_node.ensures.parts in
    let below = subst (AreTermsBelow c.args.id) c.in-App.is c.term_node.ensures.below in (
      omega (arith, below.1),
      (
        still-term ts us d c.in-App.x parts.1,
        (
          binders-grown ts us d c.args.known.now.lists c.typing_under.new.known.lists c.in_ok-f-in-App.ensures.lists
              c.args.binders c.requires.binders,
          c.in_ok-f-in-App.ensures.known,
        ),
      ),
    )

pub typing_node-returns-in_ok-x-in-App-clause-ok : goal.typing_node-returns-in_ok-x-in-App-clause-ok
typing_node-returns-in_ok-x-in-App-clause-ok t c =
    let ts = c.args.self.now in
    let us = c.typing_under.new.self in
    let ws = c.typing_under-in-App.new.self in
    let around = types_of c.typing_under.new.known.lists c.args.binders in
    let l = binders_at ts (types_of c.args.known.now.lists c.args.binders) in
    let f = term_at ts c.in-App.f in
    let x = term_at ts c.in-App.x in
    let tree = c.term_node.ensures.tree ∙ ap (term_tree ts) c.in-App.is in
    let parts = subst (HasTermParts ts) c.in-App.is c.term_node.ensures.parts in
    let d = c.in_ok-f-in-App.ensures.extends in
    let binders = binders-same ts us d c.args.known.now.lists c.typing_under.new.known.lists
    c.in_ok-f-in-App.ensures.lists c.args.binders c.requires.binders in
    let term = term-stays ts us d c.in-App.x parts.1 in
    let left = typing-grown us ws c.in_ok-x-in-App.ensures.extends l f c.in-Some.f
    (subst (IsTyping us l f) c.in-Some.is c.in_ok-f-in-App.ensures.ok) in
    let right = subst (λ (l : List (Ty Name)). IsTyping ws l x c.in_ok-x-in-App.x) binders
    (subst (λ u. IsTyping ws (binders_at us around) u c.in_ok-x-in-App.x) term c.in_ok-x-in-App.ensures.ok) in
    subst (λ u. IsTyping ws l u c.applied_to.result) (sym tree) (c.applied_to.ensures l f x left right)

pub typing_node-returns-in_ok-body-in-Abs-clause-ok : goal.typing_node-returns-in_ok-body-in-Abs-clause-ok
typing_node-returns-in_ok-body-in-Abs-clause-ok t c =
    let ts = c.args.self.now in
    let us = c.typing_under-in-Abs.new.self in
    let ws = c.abstracted.new.self in
    let l = binders_at ts (types_of c.args.known.now.lists c.args.binders) in
    let tree = c.term_node.ensures.tree ∙ ap (term_tree ts) c.in-Abs.is in
    let parts = subst (HasTermParts ts) c.in-Abs.is c.term_node.ensures.parts in
    let ty = type-stays ts us c.in_ok-body-in-Abs.ensures.extends c.in-Abs.ty parts.0 in
    let body = typing-cut ts us (type_at ts c.in-Abs.ty ∷ l) (term_at ts c.in-Abs.body)
    (types_of c.inside.new.known.lists c.in_ok-inner-in-Abs.inner) c.in_ok-body-in-Abs.body
    c.in_ok-inner-in-Abs.ensures.cut c.in_ok-body-in-Abs.ensures.ok in
    let known = subst (λ t. IsTyping us (t ∷ l) (term_at ts c.in-Abs.body) c.in_ok-body-in-Abs.body) (sym ty) body in
    IfOk-weaker c.abstracted.result _ _
    (λ r h. subst (λ u. IsTyping ws l u r) ((λ i. Abs (ty i) (term_at ts c.in-Abs.body)) ∙ sym tree)
    (h l (term_at ts c.in-Abs.body) known)) c.abstracted.ensures.ok

pub typing_node-returns-in_ok-body-in-Abs-clause-known : goal.typing_node-returns-in_ok-body-in-Abs-clause-known
typing_node-returns-in_ok-body-in-Abs-clause-known t c =
    on_ok c.abstracted.result
    (typings-grown c.typing_under-in-Abs.new.self c.abstracted.new.self c.abstracted.ensures.extends
    c.typing_under-in-Abs.new.known c.in_ok-body-in-Abs.ensures.known)
