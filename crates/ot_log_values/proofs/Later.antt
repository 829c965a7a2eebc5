-- What numbers stand for that steps have, in a table that grows.
use Rattle.std.specs.Prelude.{◌≡◌, ℕ, List, [], ◌∷◌, map, Result, Ok}
use Rattle.std.specs.List.{All}
use Rattle.std.proofs.Common.{refl, sym, ap, ◌∙◌}
use Rattle.std.proofs.lemmas.List.Elements.{All-head, All-tail}
use Rattle.ot_logic.specs.Names.{Name}
use Rattle.ot_logic.specs.Faults.{Fault}
use Rattle.ot_logic.specs.Table.{Extends}
use Rattle.ot_logic.specs.declared.command.Cmd.{Cmd}
use Rattle.ot_log_nodes.specs.Items.{Item, HasTerm, term_at}
use Rattle.ot_log_nodes.specs.declared.node.VariableNode.{VariableNode}
use Rattle.ot_log_nodes.proofs.ItemLemmas.{name-stays, type-stays, term-stays, still-name, still-type, still-term}
use Rattle.ot_log_nodes.proofs.MapLemmas.{variable-stays, still-variable}
use Rattle.ot_trace.specs.Origins.{Origin}
use Rattle.ot_machine.specs.Objects.{Object, Objects, name, a_type, variable, term}
use Rattle.ot_machine.specs.Places.{as_term, as_each}
use Rattle.ot_machine.specs.Meaning.{origin_of}
use Rattle.ot_machine.specs.declared.session.Session.{Session}
use Rattle.ot_log_values.specs.Steps.{IsNameOf, IsTypeOf, IsVariableOf, IsTermOf, IsSymbolOf}
use Rattle.ot_log_values.specs.Lists.{ReadsAs, AreEachOf, AreTermsOf}
use Rattle.ot_log_values.specs.Reading.{IsOneOf, Stays}
use Rattle.ot_log_values.specs.Staying.{term-still}
use Rattle.ot_log_values.specs.Known.{AreKept, AreKnown}
use Rattle.ot_log_values.specs.declared.values.Values.{Values}

pub map-same : {A B : Type 0} (f g : A → B) (P : A → Type 0) → ((x : A) → P x → f x ≡ g x) → (xs : List A) → All P xs
    → map f xs ≡ map g xs
map-same f g P same [] h = refl
map-same f g P same (x ∷ xs) h =
    let head = same x (All-head P x xs h) in
    let tail = map-same f g P same xs (All-tail P x xs h) in
    λ i. head i ∷ tail i

reads-same : {A : Type 0} (read : Objects → Result A (Fault Name)) (o : Origin Name) (x y : A) → x ≡ y
    → ReadsAs read o x
    → ReadsAs read o y
reads-same read o x y e h = record { is = λ v p. h.is v p ∙ ap Ok e }

module _ (s : Session) (ts us : List Item) (e : Extends ts us) where
  pub name-later : (step id : ℕ) → IsNameOf s ts step id → IsNameOf s us step id
  name-later step id h = record {
    has = still-name ts us e id h.has;
    is = h.is ∙ ap (λ n. Ok (name n)) (sym (name-stays ts us e id h.has));
  }

  pub type_of-later : (step id : ℕ) → IsTypeOf s ts step id → IsTypeOf s us step id
  type_of-later step id h = record {
    has = still-type ts us e id h.has;
    made = record { is = λ v p. h.made.is v p ∙ ap a_type (sym (type-stays ts us e id h.has)) };
  }

  pub variable-later : (step : ℕ) (w : VariableNode) → IsVariableOf s ts step w → IsVariableOf s us step w
  variable-later step w h = record {
    has = still-variable ts us e w h.has;
    made = record { is = λ v p. h.made.is v p ∙ ap variable (sym (variable-stays ts us e w h.has)) };
  }

  pub term-later : (step id : ℕ) → IsTermOf s ts step id → IsTermOf s us step id
  term-later step id h = record {
    has = still-term ts us e id h.has;
    made = record { is = λ v p. h.made.is v p ∙ ap term (sym (term-stays ts us e id h.has)) };
  }

  pub symbol-later : (w : Cmd) (step id : ℕ) → IsSymbolOf s ts w step id → IsSymbolOf s us w step id
  symbol-later w step id h = record {
    has = still-name ts us e id h.has;
    spelled = h.spelled;
    is = h.is;
    name_is = h.name_is ∙ ap (λ n. Ok (name n)) (sym (name-stays ts us e id h.has));
  }

  -- ---- what is read
  module _ {X A : Type 0} (Has : List Item → X → Type 0) (value_at : List Item → X → A)
      (as_one : Object → Result A (Fault Name)) (still : Stays Has value_at) where
    pub one-later : (step : ℕ) (x : X) → IsOneOf Has value_at as_one s ts step x
        → IsOneOf Has value_at as_one s us step x
    one-later step x h = record {
      has = (still ts us e x h.has).0;
      read = λ v q. h.read v q ∙ ap Ok (sym (still ts us e x h.has).1);
    }

    pub each-later : (step : ℕ) (xs : List X) → AreEachOf Has value_at as_one s ts step xs
        → AreEachOf Has value_at as_one s us step xs
    each-later step xs h = record {
      has = λ k d within. (still ts us e _ (h.has k d within)).0;
      read = reads-same (as_each as_one) (origin_of s step) _ _
          (map-same (value_at ts) (value_at us) (Has ts) (λ x p. sym (still ts us e x p).1) xs h.has) h.read;
    }

  pub terms-later : (step : ℕ) (ids : List ℕ) → AreTermsOf s ts step ids → AreTermsOf s us step ids
  terms-later = each-later HasTerm term_at as_term term-still

  -- ---- what is remembered
  kept-later : (P Q : ℕ → ℕ → Type 0) → ((step id : ℕ) → P step id → Q step id) → (es : List (ℕ × ℕ)) → AreKept P es
      → AreKept Q es
  kept-later P Q later es h = record { each = λ step id p. later step id (h.each step id p) }

  pub known-later : (k : Values) → AreKnown s ts k → AreKnown s us k
  known-later k h = record {
    types = kept-later (IsTypeOf s ts) (IsTypeOf s us) type_of-later k.types.entries h.types;
    terms = kept-later (IsTermOf s ts) (IsTermOf s us) term-later k.terms.entries h.terms;
  }
