-- A case gives the same sequent for the same sequents; a rule that isn't refused is a case.
use Rattle.std.specs.Prelude.{not}
use Rattle.std.specs.List.{list_all}
use Rattle.std.proofs.Common.{◌≡◌, Bool, true, List, [], ◌∷◌, map, Ok, refl, sym, ap, ◌∙◌, subst, inl, inr}
use Rattle.std.proofs.lemmas.Bool.Decides.{Decides-like, same_from_decides}
use Rattle.ot_logic.specs.Lists.{IsMember, IsPart, IsSameSet}
use Rattle.ot_logic.specs.Trees.{Alphabet, Ty, Variable, Tm, App, Abs, Sequent}
use Rattle.ot_logic.specs.Hol.{same_ty, fun_ty, bool_ty, as_fun_ty, IsFree, IsFreeInSome, is_free_in_some, close}
use Rattle.ot_logic.specs.Hol.{TypeMap, TermMap, subst_tm, once_each, same_tm, equation, as_equation, minus, union}
use Rattle.ot_logic.specs.Answers.{◌>>=◌, unless, some_or}
use Rattle.ot_logic.specs.Rules.{has_type}
use Rattle.ot_laws.proofs.Tests.{Tells, is_free_in_some-is}
use Rattle.ot_laws.proofs.Hypotheses.{IsMember-union, IsMember-minus, IsMember-minus_back, distinct-union}
use Rattle.ot_laws.proofs.Hypotheses.{distinct-minus, IsMember-once_each, distinct-once_each}
use Rattle.ot_log_format.specs.Tokens.{BadStep}
use Rattle.ot_log_format.specs.Steps.{Step, sides_of, first_pairs, eq_mp_step, abs_thm_step}
use Rattle.ot_log_format.specs.Steps.{app_thm_step, deduct_antisym_step, subst_step}
use Rattle.ot_log_records.specs.Same.{IsSame}
use Rattle.ot_logic.proofs.Members.{IsMember-map, IsMember-map_back}
use Rattle.ot_logic.proofs.Results.{bind-ok, same_Ok, unless-ok}

module _ {N : Type 0} (alphabet : Alphabet N) (tells : Tells alphabet) where
  part-union : (g g' h h' : List (Tm N)) → IsPart g g' → IsPart h h'
      → IsPart (union alphabet g h) (union alphabet g' h')
  part-union g g' h h' p q x i =
      (IsMember-union alphabet tells x g' h').1
      (elim ((IsMember-union alphabet tells x g h).0 i) [ inl j ↦ inl (p x j) | inr j ↦ inr (q x j) ])

  pub same-union : (g g' h h' : List (Tm N)) → IsSameSet g g' → IsSameSet h h'
      → IsSameSet (union alphabet g h) (union alphabet g' h')
  same-union g g' h h' s t = record { to = part-union g g' h h' s.to t.to; back = part-union g' g h' h s.back t.back }

  part-minus : (x : Tm N) (g g' : List (Tm N)) → IsPart g g' → IsPart (minus alphabet x g) (minus alphabet x g')
  part-minus x g g' p y i =
      let r = IsMember-minus alphabet tells y x g i in IsMember-minus_back alphabet tells y x g' (p y r.0) r.1

  pub same-minus : (x : Tm N) (g g' : List (Tm N)) → IsSameSet g g'
      → IsSameSet (minus alphabet x g) (minus alphabet x g')
  same-minus x g g' s = record { to = part-minus x g g' s.to; back = part-minus x g' g s.back }

  -- the sequent that a case gives for the same operands
  abbrev pub GivesSame : Sequent N → Step alphabet → Type 0
  GivesSame q r = (p : Sequent N) × (r ≡ Ok p) × IsSame alphabet q p

  -- of two unions
  united : (a b a' b' q : Sequent N) (c : Tm N) → IsSame alphabet a a' → IsSame alphabet b b'
      → ◌≡◌ {A = Step alphabet} (Ok (record { hyps = union alphabet a.hyps b.hyps; concl = c })) (Ok q)
      → IsSame alphabet q (record { hyps = union alphabet a'.hyps b'.hyps; concl = c })
  united a b a' b' q c s t h =
      subst (λ z. IsSame alphabet z (record { hyps = union alphabet a'.hyps b'.hyps; concl = c }))
      (same_Ok (record { hyps = union alphabet a.hyps b.hyps; concl = c }) q h) (record {
        hyps = same-union a.hyps a'.hyps b.hyps b'.hyps s.hyps t.hyps;
        concl = refl;
        left = distinct-union alphabet tells a.hyps b.hyps s.left t.left;
        right = distinct-union alphabet tells a'.hyps b'.hyps s.right t.right;
      })

  sides-same : (a a' : Sequent N) (e : Ty N × Tm N × Tm N) → IsSame alphabet a a' → sides_of alphabet a ≡ Ok e
      → sides_of alphabet a' ≡ Ok e
  sides-same a a' e s p = ap (λ z. some_or BadStep (as_equation alphabet z)) (sym s.concl) ∙ p

  pub eq_mp-same : (a b a' b' q : Sequent N) → IsSame alphabet a a' → IsSame alphabet b b' → eq_mp_step alphabet a b
      ≡ Ok q
      → GivesSame q (eq_mp_step alphabet a' b')
  eq_mp-same a b a' b' q s t h =
      let (e, p, k) = bind-ok (sides_of alphabet a) _ q h in
      let (u, r, l) = bind-ok (unless BadStep (same_tm alphabet e.1 b.concl)) _ q k in
      let p' = sides-same a a' e s p in
      let r' : same_tm alphabet e.1 b'.concl ≡ true =
      ap (same_tm alphabet e.1) (sym t.concl) ∙ unless-ok BadStep (same_tm alphabet e.1 b.concl) u r in
      let last : Sequent N = record { hyps = union alphabet a'.hyps b'.hyps; concl = e.2 } in
      let go : (Ty N × Tm N × Tm N) → Step alphabet =
      λ z. unless BadStep (same_tm alphabet z.1 b'.concl)
      >>= λ _. Ok (record { hyps = union alphabet a'.hyps b'.hyps; concl = z.2 }) in
      (last, ap (λ z. z >>= go) p' ∙ ap (λ z. unless BadStep z >>= λ _. Ok last) r', united a b a' b' q e.2 s t l)

  pub app_thm-same : (a b a' b' q : Sequent N) → IsSame alphabet a a' → IsSame alphabet b b'
      → app_thm_step alphabet a b ≡ Ok q
      → GivesSame q (app_thm_step alphabet a' b')
  app_thm-same a b a' b' q s t h =
      let (f, p, k) = bind-ok (sides_of alphabet a) _ q h in
      let (x, r, l) = bind-ok (sides_of alphabet b) _ q k in
      let (c, i, m) = bind-ok (some_or BadStep (as_fun_ty alphabet f.0)) _ q l in
      let (u, j, n) = bind-ok (unless BadStep (same_ty alphabet c.0 x.0)) _ q m in
      let p' = sides-same a a' f s p in
      let r' = sides-same b b' x t r in
      let concl : Tm N = equation alphabet c.1 (App f.1 x.1) (App f.2 x.2) in
      let last : Sequent N = record { hyps = union alphabet a'.hyps b'.hyps; concl = concl } in
      let three : (Ty N × Ty N) → Step alphabet =
      λ parts. unless BadStep (same_ty alphabet parts.0 x.0)
      >>= λ _. Ok
      (record {
        hyps = union alphabet a'.hyps b'.hyps;
        concl = equation alphabet parts.1 (App f.1 x.1)
            (App f.2 x.2);
      }) in
      let two : (Ty N × Tm N × Tm N) → (Ty N × Tm N × Tm N) → Step alphabet =
      λ y z. some_or BadStep (as_fun_ty alphabet y.0)
      >>= λ parts. unless BadStep (same_ty alphabet parts.0 z.0)
      >>= λ _. Ok
      (record {
        hyps = union alphabet a'.hyps b'.hyps;
        concl = equation alphabet parts.1 (App y.1 z.1)
            (App y.2 z.2);
      }) in (
        last,
        ap (λ z. z >>= λ y. sides_of alphabet b' >>= two y) p'
            ∙ ap (λ z. z >>= two f) r'
            ∙ ap (λ z. z >>= three) i
            ∙ ap (λ z. z >>= λ _. Ok last) j,
        united a b a' b' q concl s t n,
      )

  pub deduct_antisym-same : (a b a' b' q : Sequent N) → IsSame alphabet a a' → IsSame alphabet b b'
      → deduct_antisym_step alphabet a b ≡ Ok q → GivesSame q (deduct_antisym_step alphabet a' b')
  deduct_antisym-same a b a' b' q s t h =
      let made : Tm N → Tm N → Sequent N =
      λ c d. record {
        hyps = union alphabet (minus alphabet d a'.hyps) (minus alphabet c b'.hyps);
        concl = equation alphabet (bool_ty alphabet) c d;
      } in
      let last = made a.concl b.concl in
      let own : Sequent N =
      record {
        hyps = union alphabet (minus alphabet b.concl a.hyps) (minus alphabet a.concl b.hyps);
        concl = equation alphabet (bool_ty alphabet) a.concl b.concl;
      } in (
        last,
        λ i. Ok (made (sym s.concl i) (sym t.concl i)),
        subst (λ z. IsSame alphabet z last) (same_Ok own q h) (record {
          hyps =
              same-union (minus alphabet b.concl a.hyps) (minus alphabet b.concl a'.hyps)
              (minus alphabet a.concl b.hyps) (minus alphabet a.concl b'.hyps)
              (same-minus b.concl a.hyps a'.hyps s.hyps) (same-minus a.concl b.hyps b'.hyps t.hyps);
          concl = refl;
          left =
              distinct-union alphabet tells (minus alphabet b.concl a.hyps) (minus alphabet a.concl b.hyps)
              (distinct-minus alphabet tells b.concl a.hyps s.left)
              (distinct-minus alphabet tells a.concl b.hyps t.left);
          right =
              distinct-union alphabet tells (minus alphabet b.concl a'.hyps) (minus alphabet a.concl b'.hyps)
              (distinct-minus alphabet tells b.concl a'.hyps s.right)
              (distinct-minus alphabet tells a.concl b'.hyps t.right);
        }),
      )

  -- ---- a variable that is free in no hypothesis
  free-in : (v : Variable N) (ts : List (Tm N)) → IsFreeInSome alphabet v ts → (t : Tm N) × IsMember t ts
      × IsFree alphabet v t
  free-in v [] h = absurd h
  free-in v (t ∷ ts) (inl f) = (t, inl refl, f)
  free-in v (t ∷ ts) (inr h) = let r = free-in v ts h in (r.0, inr r.1, r.2)

  free-of : (v : Variable N) (t : Tm N) (ts : List (Tm N)) → IsMember t ts → IsFree alphabet v t
      → IsFreeInSome alphabet v ts
  free-of v t [] i f = absurd i
  free-of v t (u ∷ ts) (inl e) f = inl (subst (IsFree alphabet v) (sym e) f)
  free-of v t (u ∷ ts) (inr i) f = inr (free-of v t ts i f)

  free-part : (v : Variable N) (g h : List (Tm N)) → IsPart g h → IsFreeInSome alphabet v g
      → IsFreeInSome alphabet v h
  free-part v g h p f = let r = free-in v g f in free-of v r.0 h (p r.0 r.1) r.2

  same_free : (v : Variable N) (g h : List (Tm N)) → IsSameSet g h → is_free_in_some alphabet v g
      ≡ is_free_in_some alphabet v h
  same_free v g h s =
      same_from_decides (is_free_in_some alphabet v g) (is_free_in_some alphabet v h)
      (is_free_in_some-is alphabet tells v g)
      (Decides-like (is_free_in_some alphabet v h) (free-part v h g s.back)
      (free-part v g h s.to) (is_free_in_some-is alphabet tells v h))

  pub abs_thm-same : (v : Variable N) (a a' q : Sequent N) → IsSame alphabet a a' → abs_thm_step alphabet v a ≡ Ok q
      → GivesSame q (abs_thm_step alphabet v a')
  abs_thm-same v a a' q s h =
      let (e, p, k) = bind-ok (sides_of alphabet a) _ q h in
      let (u, r, l) = bind-ok (unless BadStep (not (is_free_in_some alphabet v a.hyps))) _ q k in
      let p' = sides-same a a' e s p in
      let r' : not (is_free_in_some alphabet v a'.hyps) ≡ true =
      ap not (sym (same_free v a.hyps a'.hyps s.hyps))
      ∙ unless-ok BadStep (not (is_free_in_some alphabet v a.hyps)) u r in
      let made : List (Tm N) → (Ty N × Tm N × Tm N) → Sequent N =
      λ g z. record {
        hyps = g;
        concl = equation alphabet (fun_ty alphabet v.ty z.0) (Abs v.ty (close alphabet v z.1))
            (Abs v.ty (close alphabet v z.2));
      } in
      let last = made a'.hyps e in
      let go : (Ty N × Tm N × Tm N) → Step alphabet =
      λ z. unless BadStep (not (is_free_in_some alphabet v a'.hyps)) >>= λ _. Ok (made a'.hyps z) in (
        last,
        ap (λ z. z >>= go) p' ∙ ap (λ z. unless BadStep z >>= λ _. Ok last) r',
        subst (λ z. IsSame alphabet z last) (same_Ok (made a.hyps e) q l)
            (record { hyps = s.hyps; concl = refl; left = s.left; right = s.right }),
      )

  -- ---- a substitution
  part-image : (f : Tm N → Tm N) (g h : List (Tm N)) → IsPart g h
      → IsPart (once_each alphabet (map f g)) (once_each alphabet (map f h))
  part-image f g h p x i =
      let (y, m, e) = IsMember-map_back f x g ((IsMember-once_each alphabet tells x (map f g)).0 i) in
      (IsMember-once_each alphabet tells x (map f h)).1
      (subst (λ z. IsMember z (map f h)) e (IsMember-map f y h (p y m)))

  pub subst-same : (s : TypeMap alphabet) (m : TermMap alphabet) (a a' q : Sequent N) → IsSame alphabet a a'
      → subst_step alphabet s m a ≡ Ok q → GivesSame q (subst_step alphabet s m a')
  subst-same s m a a' q t h =
      let fm = first_pairs alphabet m in
      let test : Bool = list_all (λ p. has_type alphabet p.1 p.0.ty) fm in
      let f = subst_tm alphabet s fm in
      let (u, r, l) = bind-ok (unless BadStep test) _ q h in
      let made : List (Tm N) → Tm N → Sequent N =
      λ g c. record { hyps = once_each alphabet (map f g); concl = f c } in
      let last = made a'.hyps a'.concl in (
        last,
        ap (λ z. unless BadStep z >>= λ _. Ok last) (unless-ok BadStep test u r),
        subst (λ z. IsSame alphabet z last) (same_Ok (made a.hyps a.concl) q l) (record {
          hyps = record {
            to = part-image f a.hyps a'.hyps t.hyps.to;
            back = part-image f a'.hyps a.hyps t.hyps.back;
          };
          concl = ap f t.concl;
          left = distinct-once_each alphabet tells (map f a.hyps);
          right = distinct-once_each alphabet tells (map f a'.hyps);
        }),
      )
