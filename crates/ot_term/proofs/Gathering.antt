-- The subterms of a term, and the types that it mentions.
use Rattle.std.proofs.Common.{◌≡◌, ℕ, ◌+◌, ◌<◌, inl, inr, List, [], ◌∷◌, ◌++◌, length, take}
use Rattle.std.proofs.Common.{Some, None, get_or, slice_get, fold, refl, sym, ap, subst, ◌∙◌}
use Rattle.std.specs.Ordering.{nat_cmp}
use Rattle.std.specs.BTreeSet.{insert_key}
use Rattle.std.specs.List.{All}
use Rattle.std.proofs.lemmas.List.{take_more}
use Rattle.std.proofs.lemmas.Option.{get_or_from_slice_get, same_Some}
use Rattle.ot_logic.specs.Lists.{IsMember, IsSameSet}
use Rattle.ot_logic.specs.Trees.{Ty, TyVar, TyOp, Variable, Named, NVar, NConst, NApp, NAbs}
use Rattle.ot_type.specs.TypeTable.{type_at, types_at}
use Rattle.ot_type.specs.Subtypes.{IsSubtype}
use Rattle.ot_type.proofs.SubtypeLemmas.{IsSubtype-refl, IsSubtype-trans, parts_of_op}
use Rattle.ot_term.specs.Term.{TermTable}
use Rattle.ot_term.specs.TermTable.{term_at, term_of}
use Rattle.ot_term.specs.Walk.{AddsParts, AreFound, IsInsideSome}
use Rattle.ot_term.specs.Gather.{IsSubterm, own_type, IsMentioned, AreOwnTypes}
use Rattle.ot_term.specs.declared.term.TermNode.{TermNode}
use Rattle.ot_term.proofs.Walking.{IsSearch, search_start, set_one, set_with}
use Rattle.ot_logic.proofs.Members.{IsMember-cases, IsMember-left, IsMember-right, IsMember-push}

-- ---- subterms
pub IsSubterm-refl : (t : Named ℕ) → IsSubterm t t
IsSubterm-refl (NVar v) = refl
IsSubterm-refl (NConst n t) = refl
IsSubterm-refl (NApp f x) = inl refl
IsSubterm-refl (NAbs v b) = inl refl

pub IsSubterm-trans : (t u v : Named ℕ) → IsSubterm u v → IsSubterm v t → IsSubterm u t
IsSubterm-trans (NVar w) u v h e = subst (IsSubterm u) e h
IsSubterm-trans (NConst n t) u v h e = subst (IsSubterm u) e h
IsSubterm-trans (NApp f x) u v h (inl e) = subst (IsSubterm u) e h
IsSubterm-trans (NApp f x) u v h (inr (inl k)) = inr (inl (IsSubterm-trans f u v h k))
IsSubterm-trans (NApp f x) u v h (inr (inr k)) = inr (inr (IsSubterm-trans x u v h k))
IsSubterm-trans (NAbs w b) u v h (inl e) = subst (IsSubterm u) e h
IsSubterm-trans (NAbs w b) u v h (inr k) = inr (IsSubterm-trans b u v h k)

-- the tree of a node
pub node_tree : (tys : List (Ty ℕ)) (ts : List (Named ℕ)) (i : ℕ) (n m : TermNode)
    → slice_get ts i ≡ Some (term_of tys ts n) → n ≡ m → term_at ts i ≡ term_of tys ts m
node_tree tys ts i n m tree is = get_or_from_slice_get ts i _ (NConst 0 (TyVar 0)) tree ∙ ap (term_of tys ts) is

module _ (ts : List (Named ℕ)) where
  -- what the parts of a term add
  pub parts_of_leaf : (i : ℕ) (xs : List ℕ) → ((u : Named ℕ) → IsSubterm u (term_at ts i) → u ≡ term_at ts i)
      → AddsParts (term_at ts) IsSubterm i xs xs
  parts_of_leaf i xs leaf = record { kept = λ y m. m; each = λ y m. inl m; all = λ u h. inl (leaf u h) }

  pub parts_of_variable : (i : ℕ) (xs : List ℕ) (v : Variable ℕ) → term_at ts i ≡ NVar v
      → AddsParts (term_at ts) IsSubterm i xs xs
  parts_of_variable i xs v root = parts_of_leaf i xs (λ u h. subst (IsSubterm u) root h ∙ sym root)

  pub parts_of_constant : (i : ℕ) (xs : List ℕ) (n : ℕ) (ty : Ty ℕ) → term_at ts i ≡ NConst n ty
      → AddsParts (term_at ts) IsSubterm i xs xs
  parts_of_constant i xs n ty root = parts_of_leaf i xs (λ u h. subst (IsSubterm u) root h ∙ sym root)

  pub parts_of_application : (i f x : ℕ) (xs ys : List ℕ) → term_at ts i ≡ NApp (term_at ts f) (term_at ts x) → f < i
      → x < i → ys ≡ fold (insert_key nat_cmp) xs (f ∷ x ∷ []) → AddsParts (term_at ts) IsSubterm i xs ys
  parts_of_application i f x xs ys root hf hx is =
      let same : IsSameSet ys (xs ++ f ∷ x ∷ []) =
      subst (λ ys. IsSameSet ys (xs ++ f ∷ x ∷ [])) (sym is) (set_with xs (f ∷ x ∷ [])) in
      record {
        kept = λ y m. same.back y (IsMember-left y xs (f ∷ x ∷ []) m);
        each = λ y m. elim (IsMember-cases y xs (f ∷ x ∷ []) (same.to y m)) [
          | inl a ↦ inl a
          | inr b ↦ inr (elim b [
            | inl e ↦ subst (λ y. (y < i) × IsSubterm (term_at ts y) (term_at ts i)) e
                (hf, subst (IsSubterm (term_at ts f)) (sym root) (inr (inl (IsSubterm-refl (term_at ts f)))))
            | inr c ↦ elim c [
              | inl e ↦ subst (λ y. (y < i) × IsSubterm (term_at ts y) (term_at ts i)) e
                  (hx, subst (IsSubterm (term_at ts x)) (sym root) (inr (inr (IsSubterm-refl (term_at ts x)))))
              | inr never ↦ absurd never
            ]
          ])
        ];
        all = λ u h. elim (subst (IsSubterm u) root h) [
          | inl e ↦ inl (e ∙ sym root)
          | inr a ↦ inr (elim a [
            | inl k ↦ (f, same.back f (IsMember-right f xs (f ∷ x ∷ []) (inl refl)), k)
            | inr k ↦ (x, same.back x (IsMember-right x xs (f ∷ x ∷ []) (inr (inl refl))), k)
          ])
        ];
      }

  pub parts_of_abstraction : (i b : ℕ) (v : Variable ℕ) (xs ys : List ℕ) → term_at ts i ≡ NAbs v (term_at ts b)
      → b < i → ys ≡ fold (insert_key nat_cmp) xs (b ∷ []) → AddsParts (term_at ts) IsSubterm i xs ys
  parts_of_abstraction i b v xs ys root hb is =
      let same : IsSameSet ys (xs ++ b ∷ []) = subst (λ ys. IsSameSet ys (xs ++ b ∷ [])) (sym is) (set_one xs b) in
      record {
        kept = λ y m. same.back y (IsMember-left y xs (b ∷ []) m);
        each = λ y m. elim (IsMember-push y xs b (same.to y m)) [
          | inl a ↦ inl a
          | inr e ↦
              inr (subst (λ y. (y < i) × IsSubterm (term_at ts y) (term_at ts i)) e
              (hb, subst (IsSubterm (term_at ts b)) (sym root) (inr (IsSubterm-refl (term_at ts b)))))
        ];
        all = λ u h. elim (subst (IsSubterm u) root h) [
          | inl e ↦ inl (e ∙ sym root)
          | inr k ↦ inr (b, same.back b (IsMember-right b xs (b ∷ []) (inl refl)), k)
        ];
      }

  pub subterms_start : (i : ℕ) → i < length ts
      → IsSearch (term_at ts) IsSubterm (length ts) (λ u. IsSubterm u (term_at ts i)) [] (i ∷ [])
  subterms_start i h = search_start (term_at ts) IsSubterm (length ts) (λ u. IsSubterm u (term_at ts i)) (i ∷ [])
      (λ k m. elim m [
        | inl e ↦ subst (λ k. (k < length ts) × IsSubterm (term_at ts k) (term_at ts i)) e
            (h, IsSubterm-refl (term_at ts i))
        | inr never ↦ absurd never
      ])
      (λ u s. (i, inl refl, s))

module _ (tys : List (Ty ℕ)) where
  -- what the arguments of a type add
  pub arguments_of_var : (i n : ℕ) (xs : List ℕ) → type_at tys i ≡ TyVar n → AddsParts (type_at tys) IsSubtype i xs xs
  arguments_of_var i n xs root =
      record { kept = λ y m. m; each = λ y m. inl m; all = λ u h. inl (subst (IsSubtype u) root h ∙ sym root) }

  pub arguments_of_op : (i n : ℕ) (args xs ys : List ℕ) → type_at tys i ≡ TyOp n (types_at tys args)
      → All (λ k. k < i) args → ys ≡ fold (insert_key nat_cmp) xs args → AddsParts (type_at tys) IsSubtype i xs ys
  arguments_of_op i n args xs ys root below is =
      let p = parts_of_op tys i n args xs ys root below
      (subst (λ ys. IsSameSet ys (xs ++ args)) (sym is) (set_with xs args)) in
      record { kept = p.kept; each = p.each; all = p.all }

  pub subtypes_start : (ks : List ℕ) → ((k : ℕ) → IsMember k ks → k < length tys)
      → IsSearch (type_at tys) IsSubtype (length tys) (IsInsideSome (type_at tys) IsSubtype ks) [] ks
  subtypes_start ks below =
      search_start (type_at tys) IsSubtype (length tys) (IsInsideSome (type_at tys) IsSubtype ks) ks
      (λ k m. (below k m, (k, m, IsSubtype-refl (type_at tys k)))) (λ u s. s)

  pub inside_closed : (ks : List ℕ) (u v : Ty ℕ) → IsSubtype u v → IsInsideSome (type_at tys) IsSubtype ks v
      → IsInsideSome (type_at tys) IsSubtype ks u
  inside_closed ks u v h (k, m, s) = (k, m, IsSubtype-trans u v (type_at tys k) h s)

-- ---- the own types of terms
module _ (t : TermTable) where
  -- one more term
  pub own_skip : (ids ks : List ℕ) (i : ℕ) → AreOwnTypes t ids ks → own_type (term_at t.terms i) ≡ None
      → AreOwnTypes t (ids ++ i ∷ []) ks
  own_skip ids ks i own none = record {
    each = λ k m. let e = own.each k m in (e.0, (e.1.0, IsMember-left e.1.0 ids (i ∷ []) e.1.1, e.1.2));
    all = λ j ty m e. elim (IsMember-push j ids i m) [
      | inl a ↦ own.all j ty a e
      | inr same ↦ let clash : None ≡ Some ty = sym none ∙ ap (λ j. own_type (term_at t.terms j)) same ∙ e in cc
    ];
  }

  pub own_push : (ids ks : List ℕ) (i k : ℕ) (new : List ℕ) → AreOwnTypes t ids ks → k < length t.types
      → own_type (term_at t.terms i) ≡ Some (type_at t.types k) → new ≡ insert_key nat_cmp ks k
      → AreOwnTypes t (ids ++ i ∷ []) new
  own_push ids ks i k new own below here is =
      let same : IsSameSet new (ks ++ k ∷ []) = subst (λ l. IsSameSet l (ks ++ k ∷ [])) (sym is) (set_one ks k) in
      record {
        each = λ j m. elim (IsMember-push j ks k (same.to j m)) [
          | inl a ↦ let e = own.each j a in (e.0, (e.1.0, IsMember-left e.1.0 ids (i ∷ []) e.1.1, e.1.2))
          | inr e ↦
              subst (λ j. (j < length t.types)
              × ((i' : ℕ) × IsMember i' (ids ++ i ∷ []) × (own_type (term_at t.terms i') ≡ Some (type_at t.types j))))
              e (below, (i, IsMember-right i ids (i ∷ []) (inl refl), here))
        ];
        all = λ j ty m e. elim (IsMember-push j ids i m) [
          | inl a ↦ let p = own.all j ty a e in (p.0, same.back p.0 (IsMember-left p.0 ks (k ∷ []) p.1), p.2)
          | inr eq ↦ (
            k,
            same.back k (IsMember-right k ks (k ∷ []) (inl refl)),
            same_Some (type_at t.types k) ty
                (sym here ∙ ap (λ j. own_type (term_at t.terms j)) eq ∙ e),
          )
        ];
      }

  -- the types inside the own types are those that are mentioned
  pub mentioned : (ids ks xs : List ℕ) → AreOwnTypes t ids ks
      → AreFound (type_at t.types) (length t.types) (IsInsideSome (type_at t.types) IsSubtype ks) xs
      → AreFound (type_at t.types) (length t.types) (IsMentioned t ids) xs
  mentioned ids ks xs own found = record {
    each = λ x m.
        let e = found.each x m in
        let k = own.each e.1.0 e.1.1 in
        (e.0, (k.1.0, type_at t.types e.1.0, k.1.1, k.1.2, e.1.2));
    all = λ u (i, ty, m, e, s).
        let k = own.all i ty m e in
        found.all u (k.0, k.1, subst (IsSubtype u) (sym k.2) s);
    falling = found.falling;
  }

-- a list with one more, as a loop goes on
pub take_item : (ids : List ℕ) (i x : ℕ) → i < length ids → x ≡ get_or ids i x → take (i + 1) ids ≡ take i ids ++ x
    ∷ []
take_item ids i x h is = take_more ids i x h ∙ ap (λ y. take i ids ++ y ∷ []) (sym is)
