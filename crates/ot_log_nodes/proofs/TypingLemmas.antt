-- Types of nameless terms under binders, in a table that grows.
use Rattle.std.specs.Prelude.{IfOk, nat_le}
use Rattle.std.specs.Map.{lookup}
use Rattle.std.specs.Option.{option_map}
use Rattle.std.proofs.Common.{◌≡◌, ℕ, zero, suc, ◌<◌, Bool, true, false, ◌&&◌, cond, nat_eq}
use Rattle.std.proofs.Common.{eqb-true, List, [], ◌∷◌, length, slice_get, inl, inr, BuildHasherDefault, FoldHasher}
use Rattle.std.proofs.Common.{Option, None, Some, Result, Ok, Err, refl, sym, ap, subst, ◌∙◌, arith}
use Rattle.std.specs.List.{All}
use Rattle.std.proofs.lemmas.List.Elements.{All-nil, All-cons, All-head, All-tail}
use Rattle.std.proofs.lemmas.Option.{same_Some, none-some, slice_get_past, slice_get_within, get_or_from_slice_get}
use Rattle.std.proofs.lemmas.Bool.{and_parts, leb-true, leb-false}
use Rattle.indexmap.specs.IndexMap.{IndexMap}
use Rattle.ot_logic.specs.Names.{Name, same_name}
use Rattle.ot_logic.specs.Naming.{names}
use Rattle.ot_logic.specs.Table.{Extends, IsInjective}
use Rattle.ot_logic.specs.Trees.{Ty, TyVar, TyOp, NoTys, MoreTys, Tm, Free, Con, Bound, App, Abs}
use Rattle.ot_logic.specs.Hol.{same_ty, fun_ty, as_fun_ty, result_ty, applied, type_in, depth_ty}
use Rattle.ot_logic.proofs.TableLemmas.{Extends-refl}
use Rattle.ot_laws.proofs.Tests.{tells_names, same_ty-is}
use Rattle.ot_log_format.specs.Steps.{log_depth, is_within_type, has_types_within}
use Rattle.ot_log_format.specs.Walks.{loose}
use Rattle.ot_log_nodes.specs.Items.{Item, IsType, HasType, type_at, term_at}
use Rattle.ot_log_nodes.specs.Lists.{spread, list_at, HasList, IsList, types_of, AreBinders}
use Rattle.ot_log_nodes.specs.Places.{HasPlace, ArePlaceTables}
use Rattle.ot_log_nodes.specs.Shapes.{IsFunction}
use Rattle.ot_log_nodes.specs.Typing.{binders_at, HasTyping, IsTyping, IsTyped, IsCut, same_scope}
use Rattle.ot_log_nodes.specs.Typing.{IsTypingOf, AreTypings}
use Rattle.ot_log_nodes.specs.declared.table.typing.Typed.{Typed}
use Rattle.ot_log_nodes.specs.declared.table.typing.Scope.{Scope}
use Rattle.ot_log_nodes.specs.declared.table.typing.Entries.{Entries}
use Rattle.ot_log_nodes.proofs.ItemLemmas.{type-is, has-type, type-stays, term-stays}
use Rattle.ot_log_nodes.proofs.ItemLemmas.{still-type, still-types, still-term, type-one}
use Rattle.ot_log_nodes.proofs.ListLemmas.{list-stays, still-list}
use Rattle.ot_log_nodes.proofs.PlaceLemmas.{place_tables-grown}

-- ---- a table that grows
module _ (ts us : List Item) (e : Extends ts us) where
  pub typing-grown : (l : List (Ty Name)) (t : Tm Name) (r : Typed) → HasTyping ts l t r → HasTyping us l t r
  typing-grown l t r h = record {
    number = still-type ts us e r.ty h.number;
    type = h.type ∙ ap Some (sym (type-stays ts us e r.ty h.number));
    parts = h.parts;
  }

  pub binders-stay : (is : List ℕ) → All (HasType ts) is → binders_at us is ≡ binders_at ts is
  binders-stay [] h = refl
  binders-stay (i ∷ is) h =
      let head = type-stays ts us e i (All-head (HasType ts) i is h) in
      let tail = binders-stay is (All-tail (HasType ts) i is h) in
      λ j. head j ∷ tail j

-- and lists that do
module _ (ts us : List Item) (e : Extends ts us) (ls ms : List (List (ℕ × ℕ))) (d : Extends ls ms) where
  pub types-stay : (b : ℕ) → HasList ls b → types_of ms b ≡ types_of ls b
  types-stay b h = ap spread (list-stays ls ms d b h)

  pub binders-grown : (b : ℕ) → AreBinders ts ls b → AreBinders us ms b
  binders-grown b h = record {
    has = still-list ls ms d b h.has;
    types = subst (All (HasType us)) (sym (types-stay b h.has)) (still-types ts us e (types_of ls b) h.types);
  }

  pub binders-same : (b : ℕ) → AreBinders ts ls b → binders_at us (types_of ms b) ≡ binders_at ts (types_of ls b)
  binders-same b h = ap (binders_at us) (types-stay b h.has) ∙ binders-stay ts us e (types_of ls b) h.types

-- what is known stays right
pub typings-kept : (ts us : List Item) → Extends ts us → (old new : Entries) → Extends old.lists new.lists
    → new.types ≡ old.types → ArePlaceTables us new.lists new.places → AreTypings ts old → AreTypings us new
typings-kept ts us e old new d same places h = record {
  places = places;
  known = λ s r p.
      let kept = ap (λ (t : IndexMap Scope Typed (BuildHasherDefault FoldHasher)). lookup (same_scope s) t.entries) same
      in
      let k = h.known s r (sym kept ∙ p) in
      let types = binders_at ts (types_of old.lists s.binders) in
      let binders = binders-same ts us e old.lists new.lists d s.binders k.binders in
      let term = term-stays ts us e s.id k.term in
      record {
        term = still-term ts us e s.id k.term;
        binders = binders-grown ts us e old.lists new.lists d s.binders k.binders;
        typing = subst (λ l. HasTyping us l (term_at us s.id) r) (sym binders)
            (subst (λ t. HasTyping us types t r) (sym term)
            (typing-grown ts us e types (term_at ts s.id) r k.typing));
      };
}

pub typings-grown : (ts us : List Item) → Extends ts us → (es : Entries) → AreTypings ts es → AreTypings us es
typings-grown ts us e es h = typings-kept ts us e es es (Extends-refl es.lists) refl
    (place_tables-grown es.lists es.lists (Extends-refl es.lists) ts us e es.places h.places) h

-- one typing more
pub typings-insert : (ts : List Item) (old new : Entries) (s : Scope) (r : Typed) → AreTypings ts old
    → new.lists ≡ old.lists → ArePlaceTables ts new.lists new.places → IsTypingOf ts old.lists s r
    → ((q : Scope) → lookup (same_scope q) new.types.entries
    ≡ cond (same_scope s q) (Some r) (lookup (same_scope q) old.types.entries)) → AreTypings ts new
typings-insert ts old new s r h same places is after = record {
  places = places;
  known = λ q w p. subst (λ ls. IsTypingOf ts ls q w) (sym same) (by q w (same_scope s q) refl (sym (after q) ∙ p));
}
  where
    by : (q : Scope) (w : Typed) (b : Bool) → same_scope s q ≡ b
        → cond (same_scope s q) (Some r) (lookup (same_scope q) old.types.entries) ≡ Some w
        → IsTypingOf ts old.lists q w
    by q w true e p =
        let parts = and_parts (nat_eq s.id q.id) (nat_eq s.binders q.binders) e in
        let id : s.id ≡ q.id = eqb-true s.id q.id parts.0 in
        let list : s.binders ≡ q.binders = eqb-true s.binders q.binders parts.1 in
        let kept = ap (λ b. cond b (Some r) (lookup (same_scope q) old.types.entries)) e in
        let value : r ≡ w = same_Some r w (sym kept ∙ p) in
        subst (IsTypingOf ts old.lists q) value
        (subst (λ b. IsTypingOf ts old.lists (record { id = q.id; binders = b }) r) list
        (subst (λ i. IsTypingOf ts old.lists (record { id = i; binders = s.binders }) r) id is))
    by q w false e p =
        let kept = ap (λ b. cond b (Some r) (lookup (same_scope q) old.types.entries)) e in
        h.known q w (sym kept ∙ p)

-- ---- the binders that count
inner-places : (l r : List (Ty Name)) (t : Ty Name) (b : Tm Name)
    → ((k : ℕ) → HasPlace (Abs t b) k → slice_get l k ≡ slice_get r k)
    → (k : ℕ) → HasPlace b k → slice_get (t ∷ l) k ≡ slice_get (t ∷ r) k
inner-places l r t b h zero p = refl
inner-places l r t b h (suc k) p = h k p

type-near : (l r : List (Ty Name)) (t : Tm Name) → ((k : ℕ) → HasPlace t k → slice_get l k ≡ slice_get r k)
    → type_in names l t ≡ type_in names r t
type-near l r (Free v) h = refl
type-near l r (Con n t) h = refl
type-near l r (Bound j) h = h j refl
type-near l r (App f x) h =
    λ i. applied names (type-near l r f (λ k p. h k (inl p)) i) (type-near l r x (λ k p. h k (inr p)) i)
type-near l r (Abs t b) h = ap (option_map (fun_ty names t)) (type-near (t ∷ l) (t ∷ r) b (inner-places l r t b h))

within-near : (l r : List (Ty Name)) (t : Tm Name) → ((k : ℕ) → HasPlace t k → slice_get l k ≡ slice_get r k)
    → has_types_within names l t ≡ has_types_within names r t
within-near l r (Free v) h = refl
within-near l r (Con n t) h = refl
within-near l r (Bound j) h = ap (is_within_type names) (h j refl)
within-near l r (App f x) h =
    let p = type-near l r (App f x) h in
    λ i. is_within_type names (p i) && (within-near l r f (λ k p. h k (inl p)) i
    && within-near l r x (λ k p. h k (inr p)) i)
within-near l r (Abs t b) h =
    let p = type-near l r (Abs t b) h in
    λ i. is_within_type names (p i) && within-near (t ∷ l) (t ∷ r) b (inner-places l r t b h) i

binder-at : (ts : List Item) (is : List ℕ) (k : ℕ)
    → slice_get (binders_at ts is) k ≡ option_map (type_at ts) (slice_get is k)
binder-at ts [] k = refl
binder-at ts (i ∷ is) zero = refl
binder-at ts (i ∷ is) (suc k) = binder-at ts is k

-- under binders that agree at its places a term has one type
pub cut-agree : (ts : List Item) (t : Tm Name) (is js : List ℕ)
    → ((k : ℕ) → HasPlace t k → slice_get is k ≡ slice_get js k) → IsCut ts (binders_at ts is) t js
cut-agree ts t is js h =
    let same : (k : ℕ) → HasPlace t k → slice_get (binders_at ts js) k ≡ slice_get (binders_at ts is) k =
    λ k p. binder-at ts js k ∙ ap (option_map (type_at ts)) (sym (h k p)) ∙ sym (binder-at ts is k) in
    record {
      type = type-near (binders_at ts js) (binders_at ts is) t same;
      parts = within-near (binders_at ts js) (binders_at ts is) t same;
    }

-- the type of a number that is found
pub found-type : (ts : List Item) (is : List ℕ) (k ty : ℕ) → All (HasType ts) is → Some ty ≡ slice_get is k
    → HasType ts ty
found-type ts is k ty h found = subst (HasType ts) (get_or_from_slice_get is k ty 0 (sym found))
    (h k 0 (slice_get_within is k ty (sym found)))

-- the type of a place
pub typing-bound : (ts : List Item) (is : List ℕ) (k ty : ℕ) (r : Typed) → All (HasType ts) is
    → Some ty ≡ slice_get is k → IsTyped ts ty true r → HasTyping ts (binders_at ts is) (Bound k) r
typing-bound ts is k ty r h found typed =
    let here = found-type ts is k ty h found in
    let type : slice_get (binders_at ts is) k ≡ Some (type_at ts ty) =
    binder-at ts is k ∙ ap (option_map (type_at ts)) (sym found) in
    record {
      number = subst (HasType ts) (sym typed.number) here;
      type = type ∙ ap (λ i. Some (type_at ts i)) (sym typed.number);
      parts = typed.all ∙ and_true (nat_le (depth_ty names (type_at ts ty)) log_depth)
          ∙ ap (is_within_type names) (sym type);
    }
  where
    and_true : (b : Bool) → (b && true) ≡ b
    and_true true = refl
    and_true false = refl

pub typing-nowhere : (ts : List Item) (is : List ℕ) (k : ℕ) → None ≡ slice_get is k
    → type_in names (binders_at ts is) (Bound k) ≡ None
typing-nowhere ts is k found = binder-at ts is k ∙ ap (option_map (type_at ts)) (sym found)

-- no binders; and those whose number and types are known
pub binders-none : (ts : List Item) (ls : List (List (ℕ × ℕ))) → AreBinders ts ls 0
binders-none ts ls = record { has = tt; types = All-nil (HasType ts) }

pub binders-both : {E : Type 0} (ts : List Item) (ls : List (List (ℕ × ℕ))) (r : Result ℕ E) → IfOk r (HasList ls)
    → IfOk r (λ b. All (HasType ts) (types_of ls b)) → IfOk r (AreBinders ts ls)
binders-both ts ls (Ok b) has types = record { has = has; types = types }
binders-both ts ls (Err e) has types = tt

-- one binder more
pub binders-under : (ts : List Item) (ls ms : List (List (ℕ × ℕ))) (ty b c : ℕ) → HasType ts ty → AreBinders ts ls b
    → IsList ms c ((0, ty) ∷ list_at ls b) → AreBinders ts ms c
binders-under ts ls ms ty b c here h is = record {
  has = is.has;
  types = subst (λ l. All (HasType ts) (spread l)) (sym is.is) (All-cons (HasType ts) ty (types_of ls b) here h.types);
}

pub cut-nothing : (ts : List Item) (t : Tm Name) (is : List ℕ) → IsCut ts (binders_at ts is) t is
cut-nothing ts t is = record { type = refl; parts = refl }

-- the typing under the binders that count is that under all
pub typing-cut : (ts us : List Item) (l : List (Ty Name)) (t : Tm Name) (is : List ℕ) (r : Option Typed)
    → IsCut ts l t is → IsTyping us (binders_at ts is) t r → IsTyping us l t r
typing-cut ts us l t is None c h = sym c.type ∙ h
typing-cut ts us l t is (Some r) c h =
    record { number = h.number; type = sym c.type ∙ h.type; parts = h.parts ∙ c.parts }

-- and the other way
pub typing-cut_back : (ts : List Item) (l : List (Ty Name)) (t : Tm Name) (is : List ℕ) (r : Typed) → IsCut ts l t is
    → HasTyping ts l t r → HasTyping ts (binders_at ts is) t r
typing-cut_back ts l t is r c h = record { number = h.number; type = c.type ∙ h.type; parts = h.parts ∙ sym c.parts }

-- ---- each node
module _ (ts : List Item) (l : List (Ty Name)) where
  -- an application
  module _ (t u : Tm Name) (f x : Typed) (left : HasTyping ts l t f) (right : HasTyping ts l u x) where
    whole : type_in names l (App t u) ≡ result_ty names (type_at ts f.ty) (type_at ts x.ty)
    whole = λ i. applied names (left.type i) (right.type i)

    result-none : (a : Ty Name) (y : Ty Name) → as_fun_ty names a ≡ None → result_ty names a y ≡ None
    result-none (TyVar n) y p = refl
    result-none (TyOp n NoTys) y p = refl
    result-none (TyOp n (MoreTys a NoTys)) y p = refl
    result-none (TyOp n (MoreTys a (MoreTys b NoTys))) y p = by (same_name n names.arrow) refl
      where
        by : (q : Bool) → same_name n names.arrow ≡ q
            → cond (same_name n names.arrow && same_ty names a y) (Some b) None ≡ None
        by true e = let impossible : Some (a, b) ≡ None = sym (ap (λ q. cond q (Some (a, b)) None) e) ∙ p in cc
        by false e = ap (λ q. cond (q && same_ty names a y) (Some b) None) e
    result-none (TyOp n (MoreTys a (MoreTys b (MoreTys c ds)))) y p = refl

    result-some : (a b c y : Ty Name) → as_fun_ty names a ≡ Some (b, c)
        → result_ty names a y ≡ cond (same_ty names b y) (Some c) None
    result-some (TyVar n) b c y p = cc
    result-some (TyOp n NoTys) b c y p = cc
    result-some (TyOp n (MoreTys a NoTys)) b c y p = cc
    result-some (TyOp n (MoreTys a (MoreTys d NoTys))) b c y p = by (same_name n names.arrow) refl
      where
        by : (q : Bool) → same_name n names.arrow ≡ q → cond (same_name n names.arrow && same_ty names a y)
            (Some d) None ≡ cond (same_ty names b y) (Some c) None
        by true e =
            let pair : (a, d) ≡ (b, c) = same_Some (a, d) (b, c) (sym (ap (λ q. cond q (Some (a, d)) None) e) ∙ p) in
            let from : a ≡ b = ap (λ (z : Ty Name × Ty Name). z.0) pair in
            let to : d ≡ c = ap (λ (z : Ty Name × Ty Name). z.1) pair in
            ap (λ q. cond (q && same_ty names a y) (Some d) None) e
            ∙ (λ i. cond (same_ty names (from i) y) (Some (to i)) None)
        by false e = let impossible : None ≡ Some (b, c) = sym (ap (λ q. cond q (Some (a, d)) None) e) ∙ p in cc
    result-some (TyOp n (MoreTys a (MoreTys d (MoreTys g ds)))) b c y p = cc

    pub typing-no_function : as_fun_ty names (type_at ts f.ty) ≡ None → type_in names l (App t u) ≡ None
    typing-no_function none = whole ∙ result-none (type_at ts f.ty) (type_at ts x.ty) none

    pub typing-other : (one : IsInjective ts) (a b : ℕ) → IsFunction ts f.ty a b → (a ≡ x.ty → ⊥)
        → type_in names l (App t u) ≡ None
    typing-other one a b fun apart =
        whole ∙ result-some (type_at ts f.ty) (type_at ts a) (type_at ts b) (type_at ts x.ty) fun.is
        ∙ by (same_ty names (type_at ts a) (type_at ts x.ty)) refl
      where
        by : (q : Bool) → same_ty names (type_at ts a) (type_at ts x.ty) ≡ q → cond q (Some (type_at ts b)) None
            ≡ None
        by true e =
            absurd (apart
            (type-one ts one a x.ty fun.from right.number
            ((same_ty-is names tells_names (type_at ts a) (type_at ts x.ty)).0 e)))
        by false e = refl

    pub typing-application : (a b : ℕ) (r : Typed) → IsFunction ts f.ty a b → a ≡ x.ty
        → IsTyped ts b (f.within && x.within) r → HasTyping ts l (App t u) r
    typing-application a b r fun same typed =
        let equal : same_ty names (type_at ts a) (type_at ts x.ty) ≡ true =
        (same_ty-is names tells_names (type_at ts a) (type_at ts x.ty)).1 (ap (type_at ts) same) in
        let type : type_in names l (App t u) ≡ Some (type_at ts b) =
        whole ∙ result-some (type_at ts f.ty) (type_at ts a) (type_at ts b) (type_at ts x.ty) fun.is
        ∙ ap (λ q. cond q (Some (type_at ts b)) None) equal in
        record {
          number = subst (HasType ts) (sym typed.number) fun.to;
          type = type ∙ ap (λ i. Some (type_at ts i)) (sym typed.number);
          parts = typed.all ∙ (λ i. is_within_type names (sym type i) && (left.parts i && right.parts i));
        }

  pub typing-none_left : (t u : Tm Name) → type_in names l t ≡ None → type_in names l (App t u) ≡ None
  typing-none_left t u h = ap (λ z. applied names z (type_in names l u)) h ∙ nothing (type_in names l u)
    where
      nothing : (o : Option (Ty Name)) → applied names None o ≡ None
      nothing None = refl
      nothing (Some y) = refl

  pub typing-none_right : (t u : Tm Name) → type_in names l u ≡ None → type_in names l (App t u) ≡ None
  typing-none_right t u h = ap (λ z. applied names (type_in names l t) z) h ∙ nothing (type_in names l t)
    where
      nothing : (o : Option (Ty Name)) → applied names o None ≡ None
      nothing None = refl
      nothing (Some y) = refl

-- an abstraction
pub typing-abstraction : (ts us : List Item) (l : List (Ty Name)) (ty : ℕ) (b : Tm Name) (body : Typed) (fun : ℕ)
    (r : Typed) → Extends ts us → HasTyping ts (type_at ts ty ∷ l) b body
    → IsType us fun (fun_ty names (type_at ts ty) (type_at ts body.ty)) → IsTyped us fun body.within r
    → HasTyping us l (Abs (type_at ts ty) b) r
typing-abstraction ts us l ty b body fun r e h is typed =
    let type : type_in names l (Abs (type_at ts ty) b) ≡ Some (type_at us fun) =
    ap (option_map (fun_ty names (type_at ts ty))) h.type ∙ ap Some (sym (type-is us fun _ is)) in
    record {
      number = subst (HasType us) (sym typed.number) (has-type us fun _ is);
      type = type ∙ ap (λ i. Some (type_at us i)) (sym typed.number);
      parts = typed.all ∙ (λ i. is_within_type names (sym type i) && h.parts i);
    }

-- a term that needs more binders than there are has no type
pub typing-open : (l : List (Ty Name)) (t : Tm Name) → length l < loose t → type_in names l t ≡ None
typing-open l (Free v) h = absurd (omega arith)
typing-open l (Con n t) h = absurd (omega arith)
typing-open l (Bound j) h = slice_get_past l j (omega arith)
typing-open l (App f x) h = by (nat_le (loose f) (length l)) refl (typing-open l f) (typing-open l x)
  where
    by : (b : Bool) → nat_le (loose f) (length l) ≡ b → (length l < loose f → type_in names l f ≡ None)
        → (length l < loose x → type_in names l x ≡ None) → type_in names l (App f x) ≡ None
    by true e left right =
        let le = leb-true (loose f) (length l) e in
        typing-none_right [] l f x (right (omega arith))
    by false e left right = let lt = leb-false (loose f) (length l) e in typing-none_left [] l f x (left (omega arith))
typing-open l (Abs t b) h = ap (option_map (fun_ty names t)) (typing-open (t ∷ l) b (omega arith))

-- nothing is known
pub typings-nothing : (ts : List Item) (e : Entries) → e.types.entries ≡ [] → ArePlaceTables ts e.lists e.places
    → AreTypings ts e
typings-nothing ts e types places =
    record { places = places; known = λ s r h. absurd (none-some r (sym (ap (lookup (same_scope s)) types) ∙ h)) }
