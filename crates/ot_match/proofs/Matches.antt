-- The computed maps are the ones that match.
use Rattle.std.specs.Bool.{Decides}
use Rattle.std.specs.List.{list_all}
use Rattle.std.proofs.Common.{◌≡◌, true, List, [], ◌∷◌, map}
use Rattle.std.proofs.Common.{Option, Some, None, refl, sym, ap, subst, ◌∙◌, inl, inr}
use Rattle.std.proofs.lemmas.Bool.Decides.{Decides-and}
use Rattle.std.proofs.lemmas.Option.{same_Some}
use Rattle.ot_logic.specs.Trees.{Alphabet, Variable, Tm}
use Rattle.ot_logic.specs.Hol.{TypeMap, TermMap, type_at, term_at, inst_var}
use Rattle.ot_logic.specs.Hol.{same_var, same_tm, subst_tm, vars_tm, IsFree, IsTyped}
use Rattle.ot_logic.specs.Rules.{has_type}
use Rattle.ot_logic.specs.Lists.{IsMember, AreDistinct}
use Rattle.ot_laws.proofs.Tests.{Tells, cases_of, same_var-is, same_tm-is, has_type-is}
use Rattle.ot_laws.proofs.Typed.{term_at-typed}
use Rattle.ot_match.specs.Matching.{each_once, same_key, keys, frees_tm, IsMatch, type_pairs_tm}
use Rattle.ot_match.specs.Matching.{term_pairs, type_part, term_part, is_match, matched_by, matched}
use Rattle.ot_match.specs.Laws.{MatchedIsMatch, NoneMatch, OneMatch, AnySubstitution}
use Rattle.ot_match.proofs.Once.{each_once-map, each_once-distinct, each_once-member, by-keys, at-graph}
use Rattle.ot_match.proofs.Pairs.{type_pairs_tm-bind, term_pairs-bind, frees-member}
use Rattle.ot_match.proofs.Pairs.{member-frees, inst-same, bind-same, var-types}
use Rattle.ot_logic.proofs.Members.{map_agree}

map-map : {A B C : Type 0} (f : A → B) (g : B → C) (xs : List A) → map g (map f xs) ≡ map (λ x. g (f x)) xs
map-map f g [] = refl
map-map f g (x ∷ xs) = ap (λ zs. g (f x) ∷ zs) (map-map f g xs)

map-self : {A : Type 0} (xs : List A) → map (λ x. x) xs ≡ xs
map-self [] = refl
map-self (x ∷ xs) = ap (λ zs. x ∷ zs) (map-self xs)

module _ {N : Type 0} (alphabet : Alphabet N) (tells : Tells alphabet) where
  typed-is : (m : TermMap alphabet) → Decides (list_all (λ q. has_type alphabet q.1 q.0.ty) m) (IsTyped alphabet m)
  typed-is [] = ((λ h. tt), (λ h. refl))
  typed-is (q ∷ m) = Decides-and (has_type alphabet q.1 q.0.ty) (list_all (λ r. has_type alphabet r.1 r.0.ty) m)
      (has_type-is alphabet tells q.1 q.0.ty) (typed-is m)

  is_match-is : (p c : Tm N) (s : TypeMap alphabet) (m : TermMap alphabet)
      → Decides (is_match alphabet p c s m) ((subst_tm alphabet s m p ≡ c) × IsTyped alphabet m)
  is_match-is p c s m =
      Decides-and (same_tm alphabet (subst_tm alphabet s m p) c) (list_all (λ q. has_type alphabet q.1 q.0.ty) m)
      (same_tm-is alphabet tells (subst_tm alphabet s m p) c) (typed-is m)

  -- of any substitution that gives the term
  module _ (p c : Tm N) (s : TypeMap alphabet) (m : TermMap alphabet) (typed : IsTyped alphabet m)
      (gives : subst_tm alphabet s m p ≡ c) where
    types-are : type_pairs_tm alphabet p c ≡ map (λ n. (n, type_at alphabet s n)) (vars_tm alphabet p)
    types-are =
        rw (← gives) (type_pairs_tm-bind alphabet (type_at alphabet s)
        (λ v. term_at alphabet m (inst_var alphabet s v)) p
        (λ v i. term_at-typed alphabet tells m (inst_var alphabet s v) typed))

    terms-are : term_pairs alphabet p c ≡ map (λ v. (v, term_at alphabet m (inst_var alphabet s v)))
        (frees_tm alphabet p)
    terms-are =
        rw (← gives) (term_pairs-bind alphabet (type_at alphabet s) (λ v. term_at alphabet m (inst_var alphabet s v))
        p)

    type_part-is : type_part alphabet p c ≡ map (λ n. (n, type_at alphabet s n))
        (each_once alphabet.same (vars_tm alphabet p))
    type_part-is =
        rw types-are (each_once-map alphabet.same (same_key alphabet.same) (λ n. (n, type_at alphabet s n))
        (λ x y. refl) (vars_tm alphabet p))

    term_part-is : term_part alphabet s p c ≡ map (λ w. (w, term_at alphabet m w))
        (each_once (same_var alphabet) (map (inst_var alphabet s) (frees_tm alphabet p)))
    term_part-is =
        let e : map {B = Variable N × Tm N} (λ q. (inst_var alphabet s q.0, q.1)) (term_pairs alphabet p c)
        ≡ map (λ w. (w, term_at alphabet m w)) (map (inst_var alphabet s) (frees_tm alphabet p)) =
        rw terms-are (map-map (λ v. (v, term_at alphabet m (inst_var alphabet s v)))
        (λ q. (inst_var alphabet s q.0, q.1)) (frees_tm alphabet p)
        ∙ sym (map-map (inst_var alphabet s) (λ w. (w, term_at alphabet m w)) (frees_tm alphabet p))) in
        rw e (each_once-map (same_var alphabet) (same_key (same_var alphabet)) (λ w. (w, term_at alphabet m w))
        (λ x y. refl) (map (inst_var alphabet s) (frees_tm alphabet p)))

  keys-graph : {K X : Type 0} (f : K → X) (ks : List K) → keys (map (λ k. (k, f k)) ks) ≡ ks
  keys-graph f ks = map-map (λ k. (k, f k)) (λ q. q.0) ks ∙ map-self ks

  -- maps that match are the computed ones
  module _ (p c : Tm N) (s : TypeMap alphabet) (m : TermMap alphabet) (i : IsMatch alphabet p c s m) where
    types-match : type_part alphabet p c ≡ s
    types-match =
        let d : AreDistinct (keys s) = rw i.types (each_once-distinct alphabet.same tells (vars_tm alphabet p)) in
        type_part-is p c s m i.typed i.gives ∙ ap (map (λ n. (n, type_at alphabet s n))) (sym i.types)
        ∙ by-keys alphabet.same tells (type_at alphabet) (λ q r n. refl) s d

    terms-match : term_part alphabet s p c ≡ m
    terms-match =
        let d : AreDistinct (keys m) =
        rw i.vars (each_once-distinct (same_var alphabet) (same_var-is alphabet tells)
        (map (inst_var alphabet s) (frees_tm alphabet p))) in
        term_part-is p c s m i.typed i.gives ∙ ap (map (λ w. (w, term_at alphabet m w))) (sym i.vars)
        ∙ by-keys (same_var alphabet) (same_var-is alphabet tells) (term_at alphabet) (λ q r w. refl) m d

    matched-match : matched alphabet p c ≡ Some (s, m)
    matched-match =
        let e : is_match alphabet p c s m ≡ true = (is_match-is p c s m).1 (i.gives, i.typed) in
        rw (types-match, terms-match, e) refl

  -- the computed maps match
  made : (p c : Tm N) (s : TypeMap alphabet) (m : TermMap alphabet) → IsTyped alphabet m → subst_tm alphabet s m p ≡ c
      → type_part alphabet p c ≡ s → term_part alphabet s p c ≡ m → IsMatch alphabet p c s m
  made p c s m typed gives a b = record {
    types = ap keys (sym a ∙ type_part-is p c s m typed gives)
        ∙ keys-graph (type_at alphabet s) (each_once alphabet.same (vars_tm alphabet p));
    vars = ap keys (sym b ∙ term_part-is p c s m typed gives) ∙ keys-graph (term_at alphabet m)
        (each_once (same_var alphabet) (map (inst_var alphabet s) (frees_tm alphabet p)));
    typed = typed;
    gives = gives;
  }

  match-from : (p c : Tm N) (s r : TypeMap alphabet) (m k : TermMap alphabet) → type_part alphabet p c ≡ r
      → term_part alphabet r p c ≡ k → matched_by alphabet p c r k ≡ Some (s, m) → IsMatch alphabet p c s m
  match-from p c s r m k a b h = elim (cases_of (is_match alphabet p c r k) (is_match-is p c r k)) [
    | inl q ↦
        let e : ◌≡◌ {A = Option (TypeMap alphabet × TermMap alphabet)} (Some (r, k)) (Some (s, m)) = rw q.0 at h in
        let f = same_Some (r, k) (s, m) e in
        let g : IsMatch alphabet p c r k = made p c r k q.1.1 q.1.0 a b in
        subst (λ x. IsMatch alphabet p c x.0 x.1) f g
    | inr q ↦
        let e : ◌≡◌ {A = Option (TypeMap alphabet × TermMap alphabet)} None (Some (s, m)) = rw q.0 at h in
        absurd (cc e)
  ]

  pub matched_is_match : MatchedIsMatch alphabet
  matched_is_match p c s m = (
    match-from p c s (type_part alphabet p c) m (term_part alphabet (type_part alphabet p c) p c) refl refl,
    matched-match p c s m,
  )

  pub none_match : NoneMatch alphabet
  none_match p c = (
    (λ h s m i. let e = matched-match p c s m i in cc),
    (λ h. go (matched alphabet p c) refl h),
  )
    where
      go : (o : Option (TypeMap alphabet × TermMap alphabet)) → matched alphabet p c ≡ o
          → ((s : TypeMap alphabet) (m : TermMap alphabet) → ¬ (IsMatch alphabet p c s m)) → o ≡ None
      go None e h = refl
      go (Some (s, m)) e h = absurd (h s m ((matched_is_match p c s m).0 e))

  pub one_match : OneMatch alphabet
  one_match p c s r m k i j =
      let e : Some (s, m) ≡ Some (r, k) = sym (matched-match p c s m i) ∙ matched-match p c r k j in
      let f = same_Some (s, m) (r, k) e in
      (ap (λ x. x.0) f, ap (λ x. x.1) f)

  -- any substitution by terms of their variables' types is a match, on the variables of the pattern
  pub any_substitution : AnySubstitution alphabet
  any_substitution p c r k typed gives = (
    s,
    m,
    record {
      types = types;
      vars = vars;
      typed = typed_m (each_once (same_var alphabet) after);
      gives = same
          ∙ gives;
    },
    (λ n i. sym (types-at n i)),
    (λ v i. sym (terms-at v i)),
  )
    where
      s : TypeMap alphabet
      s = map (λ n. (n, type_at alphabet r n)) (each_once alphabet.same (vars_tm alphabet p))

      after : List (Variable N)
      after = map (inst_var alphabet r) (frees_tm alphabet p)

      m : TermMap alphabet
      m = map (λ w. (w, term_at alphabet k w)) (each_once (same_var alphabet) after)

      types-at : (n : N) → IsMember n (vars_tm alphabet p) → type_at alphabet s n ≡ type_at alphabet r n
      types-at n i = at-graph alphabet.same tells (type_at alphabet) (λ q x y. refl) (type_at alphabet r) n
          (each_once alphabet.same (vars_tm alphabet p))
          (each_once-member alphabet.same tells n (vars_tm alphabet p) i)

      var-at : (v : Variable N) → IsFree alphabet v p → inst_var alphabet s v ≡ inst_var alphabet r v
      var-at v i =
          ap (λ t. record { name = v.name; ty = t })
          (inst-same alphabet (type_at alphabet s) (type_at alphabet r) v.ty
          (λ n j. types-at n (var-types alphabet v p i n j)))

      afters : map (inst_var alphabet s) (frees_tm alphabet p) ≡ after
      afters = map_agree (inst_var alphabet s) (inst_var alphabet r) (frees_tm alphabet p)
          (λ v i. var-at v (member-frees alphabet v p i))

      member-after : (v : Variable N) (xs : List (Variable N)) → IsMember v xs
          → IsMember (inst_var alphabet r v) (map (inst_var alphabet r) xs)
      member-after v [] i = absurd i
      member-after v (x ∷ xs) (inl e) = inl (ap (inst_var alphabet r) e)
      member-after v (x ∷ xs) (inr i) = inr (member-after v xs i)

      terms-at : (v : Variable N) → IsFree alphabet v p → term_at alphabet m (inst_var alphabet s v)
          ≡ term_at alphabet k (inst_var alphabet r v)
      terms-at v i = ap (term_at alphabet m) (var-at v i) ∙ at-graph (same_var alphabet) (same_var-is alphabet tells)
          (term_at alphabet) (λ q x y. refl) (term_at alphabet k) (inst_var alphabet r v)
          (each_once (same_var alphabet) after) (each_once-member (same_var alphabet) (same_var-is alphabet tells)
          (inst_var alphabet r v) after (member-after v (frees_tm alphabet p) (frees-member alphabet v p i)))

      types : keys s ≡ each_once alphabet.same (vars_tm alphabet p)
      types = keys-graph (type_at alphabet r) (each_once alphabet.same (vars_tm alphabet p))

      vars : keys m ≡ each_once (same_var alphabet) (map (inst_var alphabet s) (frees_tm alphabet p))
      vars = keys-graph (term_at alphabet k) (each_once (same_var alphabet) after)
          ∙ ap (each_once (same_var alphabet)) (sym afters)

      typed_m : (ws : List (Variable N)) → IsTyped alphabet (map (λ w. (w, term_at alphabet k w)) ws)
      typed_m [] = tt
      typed_m (w ∷ ws) = (term_at-typed alphabet tells k w typed, typed_m ws)

      same : subst_tm alphabet s m p ≡ subst_tm alphabet r k p
      same = bind-same alphabet (type_at alphabet s) (type_at alphabet r)
          (λ v. term_at alphabet m (inst_var alphabet s v)) (λ v. term_at alphabet k (inst_var alphabet r v)) p
          types-at terms-at
