-- What occurs in types and terms, part after part.
use Rattle.std.specs.Prelude.{Result, OnOk}
use Rattle.std.specs.Bool.{Decides}
use Rattle.std.specs.List.{All, list_any}
use Rattle.std.proofs.Common.{◌≡◌, ◌<◌, ◌+◌, length, get_or, take, ℕ, Bool, true, false, List, [], ◌∷◌, ◌++◌}
use Rattle.std.proofs.Common.{map, fold, if◌then◌else◌, nat_eq, refl, sym, ap, ◌∙◌, subst, inl, inr, ◌⊎◌}
use Rattle.std.proofs.lemmas.List.{append_assoc, append-nil, take_more, map_more, map-append}
use Rattle.std.proofs.lemmas.List.Elements.{All-push, All-head, All-tail}
use Rattle.std.proofs.lemmas.Bool.Decides.{Decides-eqb}
use Rattle.indexmap.specs.IndexSet.{insert_key}
use Rattle.ot_logic.specs.Lists.{IsMember, IsPart, IsSameSet}
use Rattle.ot_laws.proofs.Sets.{same_set-self, same_set-then, same_set-append}
use Rattle.ot_laws.proofs.Membership.{any-is}
use Rattle.ot_log_nodes.specs.Items.{Item, type_at, types_at, term_at}
use Rattle.ot_logic.specs.Names.{Name}
use Rattle.ot_logic.specs.Trees.{Tm, Sequent}
use Rattle.ot_log_rules.specs.Statements.{terms_at, sequent_at}
use Rattle.ot_log_rules.specs.declared.statement.Statement.{Statement}
use Rattle.ot_log_rules.specs.Parts.{Occurring, marks_ty, marks_all, marks_tm, marks_each, marks_sequent}
use Rattle.ot_log_rules.specs.Parts.{marks_sequents, mark_at, HasMark, marks_at, IsGoneOver, Gathers, IsOf}
use Rattle.ot_log_rules.specs.declared.parts.Mark.{Mark}
use Rattle.ot_log_rules.specs.declared.parts.Parts.{Parts}
use Rattle.ot_logic.proofs.Members.{IsMember-cases, IsMember-left, IsMember-map, IsMember-right}
use Rattle.ot_logic.proofs.Results.{on_ok-then}

-- ---- a key in a set
module _ {K : Type 0} (eq : K → K → Bool) (is : (x y : K) → Decides (eq x y) (x ≡ y)) where
  pub inserted-cases : (ks : List K) (k x : K) → IsMember x (insert_key eq ks k) → IsMember x ks ⊎ (k ≡ x)
  inserted-cases ks k x = by (list_any (eq k) ks)
    where
      by : (b : Bool) → IsMember x (if b then ks else ks ++ k ∷ []) → IsMember x ks ⊎ (k ≡ x)
      by true m = inl m
      by false m = elim (IsMember-cases x ks (k ∷ []) m)
          [ inl i ↦ inl i | inr i ↦ elim i [ inl e ↦ inr e | inr j ↦ absurd j ] ]

  pub inserted-kept : (ks : List K) (k x : K) → IsMember x ks → IsMember x (insert_key eq ks k)
  inserted-kept ks k x m = by (list_any (eq k) ks)
    where
      by : (b : Bool) → IsMember x (if b then ks else ks ++ k ∷ [])
      by true = m
      by false = IsMember-left x ks (k ∷ []) m

  pub inserted-there : (ks : List K) (k : K) → IsMember k (insert_key eq ks k)
  inserted-there ks k = by (list_any (eq k) ks) refl
    where
      by : (b : Bool) → list_any (eq k) ks ≡ b → IsMember k (if b then ks else ks ++ k ∷ [])
      by true e = (any-is eq is k ks).0 e
      by false e = IsMember-right k ks (k ∷ []) (inl refl)

  pub inserted-all : (P : K → Type 0) (ks : List K) (k : K) → All P ks → P k → All P (insert_key eq ks k)
  inserted-all P ks k h p = by (list_any (eq k) ks)
    where
      by : (b : Bool) → All P (if b then ks else ks ++ k ∷ [])
      by true = h
      by false = All-push P ks k h p

  -- the set's elements are what they were and the new one
  pub inserted-map : {Y : Type 0} (f : K → Y) (ks : List K) (k : K)
      → IsSameSet (map f ks ++ f k ∷ []) (map f (insert_key eq ks k))
  inserted-map f ks k = by (list_any (eq k) ks) refl
    where
      by : (b : Bool) → list_any (eq k) ks ≡ b
          → IsSameSet (map f ks ++ f k ∷ []) (map f (if b then ks else ks ++ k ∷ []))
      by true e = record {
        to = λ y m. elim (IsMember-cases y (map f ks) (f k ∷ []) m) [
          | inl i ↦ i
          | inr i ↦
              elim i [
                | inl same ↦ subst (λ z. IsMember z (map f ks)) same
                    (IsMember-map f k ks ((any-is eq is k ks).0 e))
                | inr j ↦ absurd j
              ]
        ];
        back = λ y m. IsMember-left y (map f ks) (f k ∷ []) m;
      }
      by false e = subst (IsSameSet (map f ks ++ f k ∷ [])) (sym (map-append f ks (k ∷ [])))
          (same_set-self (map f ks ++ f k ∷ []))

  -- and after several of them
  pub inserted-each : {Y : Type 0} (f : K → Y) (ks xs : List K)
      → IsSameSet (map f ks ++ map f xs) (map f (fold (insert_key eq) ks xs))
  inserted-each f ks [] = subst (λ l. IsSameSet l (map f ks)) (sym (append-nil (map f ks))) (same_set-self (map f ks))
  inserted-each f ks (x ∷ xs) =
      same_set-then
      (subst (λ l. IsSameSet l (map f (insert_key eq ks x) ++ map f xs))
      (append_assoc (map f ks) (f x ∷ []) (map f xs))
      (same_set-append (inserted-map f ks x) (same_set-self (map f xs))))
      (inserted-each f (insert_key eq ks x) xs)

  pub inserted-each_all : (P : K → Type 0) (ks xs : List K) → All P ks → All P xs → All P (fold (insert_key eq) ks xs)
  inserted-each_all P ks [] h g = h
  inserted-each_all P ks (x ∷ xs) h g =
      inserted-each_all P (insert_key eq ks x) xs (inserted-all P ks x h (All-head P x xs g)) (All-tail P x xs g)

module _ (ts : List Item) where
  -- what was gathered from nothing
  pub gathered : (ms : List Occurring) (p q : Parts) → p.marks.keys ≡ [] → Gathers ts ms p q → IsOf ts ms q
  gathered ms p q none g =
      record {
        has = g.gone.marks;
        all = subst (λ ks. IsSameSet (map (mark_at ts) ks ++ ms) (marks_at ts q)) none
            g.all;
      }

  pub gathers-nothing : (p : Parts) → IsGoneOver ts p → Gathers ts [] p p
  gathers-nothing p g =
      record {
        gone = g;
        all = subst (λ l. IsSameSet l (marks_at ts p)) (sym (append-nil (marks_at ts p)))
            (same_set-self (marks_at ts p));
      }

  pub gathers-then : (ms ns : List Occurring) (p q r : Parts) → Gathers ts ms p q → Gathers ts ns q r
      → Gathers ts (ms ++ ns) p r
  gathers-then ms ns p q r g h = record {
    gone = h.gone;
    all = same_set-then (subst (λ l. IsSameSet l (marks_at ts q ++ ns)) (append_assoc (marks_at ts p) ms ns)
        (same_set-append g.all (same_set-self ns))) h.all;
  }

  -- what was there and what is in a part that is there
  known : (p : Parts) (ms : List Occurring) → IsPart ms (marks_at ts p)
      → IsSameSet (marks_at ts p ++ ms) (marks_at ts p)
  known p ms part = record {
    to = λ x m. elim (IsMember-cases x (marks_at ts p) ms m) [ inl i ↦ i | inr i ↦ part x i ];
    back = λ x m. IsMember-left x (marks_at ts p) ms m;
  }

  pub gathers-known_term : (p : Parts) (id : ℕ) (b : Bool) → IsGoneOver ts p → b ≡ list_any (nat_eq id) p.terms.keys
      → b ≡ true → Gathers ts (marks_tm (term_at ts id)) p p
  gathers-known_term p id b g e so =
      record {
        gone = g;
        all = known p (marks_tm (term_at ts id))
            (g.terms id ((any-is nat_eq Decides-eqb id p.terms.keys).0 (sym e ∙ so)));
      }

  pub gathers-known_type : (p : Parts) (id : ℕ) (b : Bool) → IsGoneOver ts p → b ≡ list_any (nat_eq id) p.types.keys
      → b ≡ true → Gathers ts (marks_ty (type_at ts id)) p p
  gathers-known_type p id b g e so =
      record {
        gone = g;
        all = known p (marks_ty (type_at ts id))
            (g.types id ((any-is nat_eq Decides-eqb id p.types.keys).0 (sym e ∙ so)));
      }

  -- parts with the same marks, and one more term or type that was gone over
  pub gathers-term : (ms : List Occurring) (p q r : Parts) (id : ℕ) → Gathers ts ms p q
      → ms ≡ marks_tm (term_at ts id) → r.marks ≡ q.marks → r.types ≡ q.types
      → r.terms.keys ≡ insert_key nat_eq q.terms.keys id → Gathers ts ms p r
  gathers-term ms p q r id g is marks types terms =
      let same : marks_at ts q ≡ marks_at ts r = sym (ap (λ s. map (mark_at ts) s.keys) marks) in
      let here : IsPart (marks_tm (term_at ts id)) (marks_at ts q) =
      λ x m. g.all.to x (IsMember-right x (marks_at ts p) ms (subst (IsMember x) (sym is) m)) in
      record {
        gone = record {
          marks = subst (λ s. All (HasMark ts) s.keys) (sym marks) g.gone.marks;
          types = λ i m. subst (IsPart (marks_ty (type_at ts i))) same
              (g.gone.types i (subst (λ s. IsMember i s.keys) types m));
          terms = λ i m. subst (IsPart (marks_tm (term_at ts i))) same
              (elim (inserted-cases nat_eq Decides-eqb q.terms.keys id i (subst (IsMember i) terms m)) [
                | inl k ↦ g.gone.terms i k
                | inr e ↦ subst (λ j. IsPart (marks_tm (term_at ts j)) (marks_at ts q)) e
                    here
              ]);
        };
        all = subst (IsSameSet (marks_at ts p ++ ms)) same g.all;
      }

  pub gathers-type : (ms : List Occurring) (p q r : Parts) (id : ℕ) → Gathers ts ms p q
      → ms ≡ marks_ty (type_at ts id) → r.marks ≡ q.marks → r.terms ≡ q.terms
      → r.types.keys ≡ insert_key nat_eq q.types.keys id → Gathers ts ms p r
  gathers-type ms p q r id g is marks terms types =
      let same : marks_at ts q ≡ marks_at ts r = sym (ap (λ s. map (mark_at ts) s.keys) marks) in
      let here : IsPart (marks_ty (type_at ts id)) (marks_at ts q) =
      λ x m. g.all.to x (IsMember-right x (marks_at ts p) ms (subst (IsMember x) (sym is) m)) in
      record {
        gone = record {
          marks = subst (λ s. All (HasMark ts) s.keys) (sym marks) g.gone.marks;
          terms = λ i m. subst (IsPart (marks_tm (term_at ts i))) same
              (g.gone.terms i (subst (λ s. IsMember i s.keys) terms m));
          types = λ i m. subst (IsPart (marks_ty (type_at ts i))) same
              (elim (inserted-cases nat_eq Decides-eqb q.types.keys id i (subst (IsMember i) types m)) [
                | inl k ↦ g.gone.types i k
                | inr e ↦ subst (λ j. IsPart (marks_ty (type_at ts j)) (marks_at ts q)) e
                    here
              ]);
        };
        all = subst (IsSameSet (marks_at ts p ++ ms)) same g.all;
      }

  -- a mark more
  pub gathers-mark : (eq : Mark → Mark → Bool) (is : (x y : Mark) → Decides (eq x y) (x ≡ y)) (p q : Parts) (m : Mark)
      → IsGoneOver ts p → HasMark ts m → q.marks.keys ≡ insert_key eq p.marks.keys m → q.types ≡ p.types
      → q.terms ≡ p.terms → Gathers ts (mark_at ts m ∷ []) p q
  gathers-mark eq is p q m g has marks types terms =
      let all : IsSameSet (marks_at ts p ++ mark_at ts m ∷ []) (marks_at ts q) =
      subst (λ ks. IsSameSet (marks_at ts p ++ mark_at ts m ∷ []) (map (mark_at ts) ks)) (sym marks)
      (inserted-map eq is (mark_at ts) p.marks.keys m) in
      let more : IsPart (marks_at ts p) (marks_at ts q) =
      λ x i. all.to x (IsMember-left x (marks_at ts p) (mark_at ts m ∷ []) i) in
      record {
        gone = record {
          marks = subst (All (HasMark ts)) (sym marks) (inserted-all eq is (HasMark ts) p.marks.keys m g.marks has);
          types = λ i k x w. more x (g.types i (subst (λ s. IsMember i s.keys) types k) x w);
          terms = λ i k x w. more x (g.terms i (subst (λ s. IsMember i s.keys) terms k) x w);
        };
        all = all;
      }

-- ---- terms and sequents, one after another
pub each-push : (g : List (Tm Name)) (t : Tm Name) → marks_each (g ++ t ∷ []) ≡ marks_each g ++ marks_tm t
each-push [] t = append-nil (marks_tm t)
each-push (u ∷ g) t = ap (λ l. marks_tm u ++ l) (each-push g t)
    ∙ sym (append_assoc (marks_tm u) (marks_each g) (marks_tm t))

pub sequents-push : (qs : List (Sequent Name)) (q : Sequent Name) → marks_sequents (qs ++ q ∷ []) ≡ marks_sequents qs
    ++ marks_sequent q
sequents-push [] q = append-nil (marks_sequent q)
sequents-push (r ∷ qs) q = ap (λ l. marks_sequent r ++ l) (sequents-push qs q)
    ∙ sym (append_assoc (marks_sequent r) (marks_sequents qs) (marks_sequent q))

module _ (ts : List Item) (p q r : Parts) where
  pub gathers-next_term : (ids : List ℕ) (k i : ℕ) → k < length ids → i ≡ get_or ids k i
      → Gathers ts (marks_each (terms_at ts (take k ids))) p q → Gathers ts (marks_tm (term_at ts i)) q r
      → Gathers ts (marks_each (terms_at ts (take (k + 1) ids))) p r
  gathers-next_term ids k i h e g n =
      let next : marks_each (terms_at ts (take (k + 1) ids))
      ≡ marks_each (terms_at ts (take k ids)) ++ marks_tm (term_at ts i) =
      ap marks_each (map_more (term_at ts) ids k i h ∙ ap (λ j. terms_at ts (take k ids) ++ term_at ts j ∷ [])
      (sym e)) ∙ each-push (terms_at ts (take k ids)) (term_at ts i) in
      subst (λ ms. Gathers ts ms p r) (sym next)
      (gathers-then ts (marks_each (terms_at ts (take k ids))) (marks_tm (term_at ts i)) p q r g n)

  pub gathers-next_sequent : (ss : List Statement) (k : ℕ) (s : Statement) → k < length ss → s ≡ get_or ss k s
      → Gathers ts (marks_sequents (map (sequent_at ts) (take k ss))) p q
      → Gathers ts (marks_sequent (sequent_at ts s)) q r
      → Gathers ts (marks_sequents (map (sequent_at ts) (take (k + 1) ss))) p r
  gathers-next_sequent ss k s h e g n =
      let next : marks_sequents (map (sequent_at ts) (take (k + 1) ss))
      ≡ marks_sequents (map (sequent_at ts) (take k ss)) ++ marks_sequent (sequent_at ts s) =
      ap marks_sequents
      (map_more (sequent_at ts) ss k s h ∙ ap (λ j. map (sequent_at ts) (take k ss) ++ sequent_at ts j ∷ [])
      (sym e)) ∙ sequents-push (map (sequent_at ts) (take k ss)) (sequent_at ts s) in
      subst (λ ms. Gathers ts ms p r) (sym next) (gathers-then ts (marks_sequents (map (sequent_at ts) (take k ss)))
      (marks_sequent (sequent_at ts s)) p q r g n)

  -- a type among the arguments of another: the marks of the first ones
  pub gathers-next_type : (ids : List ℕ) (k i : ℕ) → k < length ids → i ≡ get_or ids k i
      → Gathers ts (marks_all (types_at ts (take k ids))) p q → Gathers ts (marks_ty (type_at ts i)) q r
      → Gathers ts (marks_all (types_at ts (take (k + 1) ids))) p r
  gathers-next_type ids k i h e g n =
      let next : marks_all (types_at ts (take (k + 1) ids))
      ≡ marks_all (types_at ts (take k ids)) ++ marks_ty (type_at ts i) =
      ap (λ l. marks_all (types_at ts l)) (take_more ids k i h ∙ ap (λ j. take k ids ++ j ∷ []) (sym e))
      ∙ types-push (take k ids) i in
      subst (λ ms. Gathers ts ms p r) (sym next)
      (gathers-then ts (marks_all (types_at ts (take k ids))) (marks_ty (type_at ts i)) p q r g n)
    where
      types-push : (is : List ℕ) (i : ℕ) → marks_all (types_at ts (is ++ i ∷ [])) ≡ marks_all (types_at ts is)
          ++ marks_ty (type_at ts i)
      types-push [] i = append-nil (marks_ty (type_at ts i))
      types-push (j ∷ is) i = ap (λ l. marks_ty (type_at ts j) ++ l) (types-push is i)
          ∙ sym (append_assoc (marks_ty (type_at ts j)) (marks_all (types_at ts is)) (marks_ty (type_at ts i)))

-- ---- one after another, as the code answers
module _ (ts : List Item) (p q r : Parts) (ms ns ks : List Occurring) (is : ms ≡ ns ++ ks) where
  pub gathers-on : {E : Type 0} (b : Result (Unit {0}) E) → Gathers ts ns p q → OnOk b (Gathers ts ks q r)
      → OnOk b (Gathers ts ms p r)
  gathers-on b g h = on_ok-then b (λ k. subst (λ l. Gathers ts l p r) (sym is) (gathers-then ts ns ks p q r g k)) h
