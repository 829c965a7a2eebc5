-- The names that rules bring: those of what they are given, and the primitive ones.
use Rattle.std.specs.Prelude.{◌≡◌, ◌==◌, ◌&&◌, not, ℕ, zero, suc, Bool, true, false, cond, if◌then◌else◌}
use Rattle.std.specs.Prelude.{List, [], ◌∷◌, ◌++◌, map, Option, Some, None, Result, Ok, Err, slice_get}
use Rattle.std.specs.Option.{unwrap_or}
use Rattle.std.specs.List.{AllByRecursion, list_all}
use Rattle.std.proofs.Common.{refl, sym, subst}
use Rattle.std.proofs.lemmas.Option.{same_Some}
use Rattle.ot_logic.specs.Names.{Name}
use Rattle.ot_logic.specs.Naming.{names}
use Rattle.ot_logic.specs.Trees.{Ty, Tys, TyVar, TyOp, NoTys, MoreTys, Variable}
use Rattle.ot_logic.specs.Trees.{Tm, Free, Con, Bound, App, Abs, Sequent}
use Rattle.ot_logic.specs.Hol.{fun_ty, bool_ty, as_fun_ty, type_in, type_of, applied, TypeMap}
use Rattle.ot_logic.specs.Hol.{TermMap, type_at, term_at, inst_by, inst_all, inst_var, bind, subst_tm}
use Rattle.ot_logic.specs.Hol.{close_at, open_at, is_shallow, equation, same_tm, same_ty, same_var}
use Rattle.ot_logic.specs.Hol.{is_in, minus, lacking, union, once_each, is_free_in_some, sequent_of}
use Rattle.ot_logic.specs.Faults.{Fault, NotFunction, ArgumentType, NotBool, NotAlphaEqual, VarFreeInHyps, Nesting}
use Rattle.ot_logic.specs.Answers.{unless, some_or}
use Rattle.ot_logic.specs.Rules.{has_type, op_rule, app_rule, abs_rule, within_limit, sides, refl_rule}
use Rattle.ot_logic.specs.Rules.{assume_rule, eq_mp_rule, abs_thm_rule, app_thm_rule, deduct_antisym_rule}
use Rattle.ot_logic.specs.Rules.{beta_conv_rule, subst_rule, sym_rule, trans_rule, prove_hyp_rule, proved_hyp}
use Rattle.ot_laws.proofs.Tests.{tells_names}
use Rattle.ot_laws.proofs.Typing.{result_ty-some, abs-some, as_fun_ty-some}
use Rattle.ot_laws.proofs.Steps.{limit-ok, within_limit-ok, sides-ok, op_rule-ok, app_rule-ok}
use Rattle.ot_kernel.specs.Axioms.{axiom_rule}
use Rattle.ot_machine.specs.NamesIn.{TyNamed, TysNamed, TmNamed, SequentNamed, HasPrimitives}
use Rattle.ot_logic.proofs.Results.{bind-ok, same_Ok, some_or-ok}

module _ (P : Name → Type 0) (has : HasPrimitives P) where
  abbrev T : Ty Name → Type 0
  T = TyNamed P

  abbrev M : Tm Name → Type 0
  M = TmNamed P

  abbrev Ms : List (Tm Name) → Type 0
  Ms = AllByRecursion M

  abbrev S : Sequent Name → Type 0
  S = SequentNamed P

  pub fun-named : (t u : Ty Name) → T t → T u → T (fun_ty names t u)
  fun-named t u h k = (has.arrow, (h, (k, tt)))

  pub bool-named : T (bool_ty names)
  bool-named = (has.bool_name, tt)

  pub eq-named : (ty : Ty Name) (a b : Tm Name) → T ty → M a → M b → M (equation names ty a b)
  eq-named ty a b h p q = (
    (
      (has.equals, fun-named ty (fun_ty names ty (bool_ty names)) h (fun-named ty (bool_ty names) h bool-named)),
      p,
    ),
    q,
  )

  pub eq-parts : (ty : Ty Name) (a b : Tm Name) → M (equation names ty a b) → T ty × M a × M b
  eq-parts ty a b h = (h.0.0.1.1.0, h.0.1, h.1)

  -- ---- sets of hypotheses
  cond-all : (c : Bool) (xs ys : List (Tm Name)) → Ms xs → Ms ys → Ms (cond c xs ys)
  cond-all true xs ys h k = h
  cond-all false xs ys h k = k

  append-all : (g h : List (Tm Name)) → Ms g → Ms h → Ms (g ++ h)
  append-all [] h p q = q
  append-all (t ∷ g) h p q = (p.0, append-all g h p.1 q)

  lacking-all : (g h : List (Tm Name)) → Ms h → Ms (lacking names g h)
  lacking-all g [] q = tt
  lacking-all g (t ∷ h) q = cond-all (is_in names t g) (lacking names g h) (t ∷ lacking names g h)
      (lacking-all g h q.1) (q.0, lacking-all g h q.1)

  union-all : (g h : List (Tm Name)) → Ms g → Ms h → Ms (union names g h)
  union-all g h p q = append-all g (lacking names g h) p (lacking-all g h q)

  minus-all : (x : Tm Name) (g : List (Tm Name)) → Ms g → Ms (minus names x g)
  minus-all x [] q = tt
  minus-all x (t ∷ g) q = cond-all (same_tm names t x) (minus names x g) (t ∷ minus names x g) (minus-all x g q.1)
      (q.0, minus-all x g q.1)

  once-all : (g : List (Tm Name)) → Ms g → Ms (once_each names g)
  once-all [] q = tt
  once-all (t ∷ g) q = cond-all (is_in names t g) (once_each names g) (t ∷ once_each names g) (once-all g q.1)
      (q.0, once-all g q.1)

  -- ---- closing, opening, substitution
  cond-term : (c : Bool) (a b : Tm Name) → M a → M b → M (cond c a b)
  cond-term true a b h k = h
  cond-term false a b h k = k

  pub close-named : (k : ℕ) (v : Variable Name) (t : Tm Name) → M t → M (close_at names k v t)
  close-named k v (Free w) h = cond-term (same_var names w v) (Bound k) (Free w) tt h
  close-named k v (Con n t) h = h
  close-named k v (Bound j) h = tt
  close-named k v (App f x) h = (close-named k v f h.0, close-named k v x h.1)
  close-named k v (Abs t b) h = (h.0, close-named (suc k) v b h.1)

  pub open-named : (k : ℕ) (u t : Tm Name) → M u → M t → M (open_at names k u t)
  open-named k u (Free w) g h = h
  open-named k u (Con n t) g h = h
  open-named k u (Bound j) g h = cond-term (j == k) u (Bound j) g tt
  open-named k u (App f x) g h = (open-named k u f g h.0, open-named k u x g h.1)
  open-named k u (Abs t b) g h = (h.0, open-named (suc k) u b g h.1)

  mutual
    inst-named : (g : Name → Ty Name) → ((n : Name) → P n → T (g n)) → (t : Ty Name) → T t → T (inst_by names g t)
    inst-named g s (TyVar n) h = s n h
    inst-named g s (TyOp n ts) h = (h.0, all-named g s ts h.1)

    all-named : (g : Name → Ty Name) → ((n : Name) → P n → T (g n)) → (ts : Tys Name) → TysNamed P ts
        → TysNamed P (inst_all names g ts)
    all-named g s NoTys h = tt
    all-named g s (MoreTys t ts) h = (inst-named g s t h.0, all-named g s ts h.1)

  bind-named : (g : Name → Ty Name) (s : Variable Name → Tm Name) → ((n : Name) → P n → T (g n))
      → ((v : Variable Name) → P v.name → T v.ty → M (s v)) → (t : Tm Name) → M t → M (bind names g s t)
  bind-named g s p q (Free v) h = q v h.0 h.1
  bind-named g s p q (Con n t) h = (h.0, inst-named g p t h.1)
  bind-named g s p q (Bound k) h = tt
  bind-named g s p q (App f x) h = (bind-named g s p q f h.0, bind-named g s p q x h.1)
  bind-named g s p q (Abs t b) h = (inst-named g p t h.0, bind-named g s p q b h.1)

  abbrev pub TypesNamed : TypeMap names → Type 0
  TypesNamed = AllByRecursion (λ (p : Name × Ty Name). T p.1)

  abbrev pub TermsNamed : TermMap names → Type 0
  TermsNamed = AllByRecursion (λ (p : Variable Name × Tm Name). M p.1)

  cond-type : (c : Bool) (a b : Ty Name) → T a → T b → T (cond c a b)
  cond-type true a b h k = h
  cond-type false a b h k = k

  type_at-named : (s : TypeMap names) → TypesNamed s → (n : Name) → P n → T (type_at names s n)
  type_at-named [] h n p = p
  type_at-named (q ∷ s) h n p = cond-type (names.same n q.0) q.1 (type_at names s n) h.0 (type_at-named s h.1 n p)

  term_at-named : (m : TermMap names) → TermsNamed m → (v : Variable Name) → P v.name → T v.ty → M (term_at names m v)
  term_at-named [] h v p q = (p, q)
  term_at-named (z ∷ m) h v p q =
      cond-term (same_var names v z.0) z.1 (term_at names m v) h.0 (term_at-named m h.1 v p q)

  pub subst-named : (s : TypeMap names) (m : TermMap names) → TypesNamed s → TermsNamed m → (t : Tm Name) → M t
      → M (subst_tm names s m t)
  subst-named s m hs hm t h = bind-named (type_at names s) (λ v. term_at names m (inst_var names s v))
      (type_at-named s hs)
      (λ v p q. term_at-named m hm (inst_var names s v) p (inst-named (type_at names s) (type_at-named s hs) v.ty q))
      t h

  map-named : (s : TypeMap names) (m : TermMap names) → TypesNamed s → TermsNamed m → (ts : List (Tm Name)) → Ms ts
      → Ms (map (subst_tm names s m) ts)
  map-named s m hs hm [] h = tt
  map-named s m hs hm (t ∷ ts) h = (subst-named s m hs hm t h.0, map-named s m hs hm ts h.1)

  -- ---- the type of a term has its names
  applied-named : (o u : Option (Ty Name)) (t : Ty Name) → ((s : Ty Name) → o ≡ Some s → T s)
      → applied names o u ≡ Some t → T t
  applied-named (Some f) (Some x) t h e = let is = result_ty-some names tells_names f x t e in
      (subst T is (h f refl)).1.1.0
  applied-named (Some f) None t h e = absurd (cc)
  applied-named None u t h e = absurd (cc)

  slot-named : (l : List (Ty Name)) (i : ℕ) (t : Ty Name) → AllByRecursion T l → slice_get l i ≡ Some t → T t
  slot-named [] i t h e = absurd (cc)
  slot-named (u ∷ l) zero t h e = subst T (same_Some u t e) h.0
  slot-named (u ∷ l) (suc i) t h e = slot-named l i t h.1 e

  pub type-named : (l : List (Ty Name)) (t : Tm Name) (ty : Ty Name) → AllByRecursion T l → M t
      → type_in names l t ≡ Some ty → T ty
  type-named l (Free v) ty all h e = subst T (same_Some v.ty ty e) h.1
  type-named l (Con n t) ty all h e = subst T (same_Some t ty e) h.1
  type-named l (Bound i) ty all h e = slot-named l i ty all e
  type-named l (App f x) ty all h e =
      applied-named (type_in names l f) (type_in names l x) ty (λ s. type-named l f s all h.0) e
  type-named l (Abs t c) ty all h e =
      let (u, p, q) = abs-some names t (type_in names (t ∷ l) c) ty e in
      subst T (sym q) (fun-named t u h.0 (type-named (t ∷ l) c u (h.0, all) h.1 p))

  pub type_of-named : (t : Tm Name) → M t → T (type_of names t)
  type_of-named t h = go (type_in names [] t) refl
    where
      go : (o : Option (Ty Name)) → type_in names [] t ≡ o → T (unwrap_or o (bool_ty names))
      go (Some ty) e = type-named [] t ty tt h e
      go None e = bool-named

  -- ---- the rules
  abbrev Answer : Type 0
  Answer = Result (Sequent Name) (Fault Name)

  within : (q r : Sequent Name) → within_limit names q ≡ Ok r → S q → S r
  within q r e h = subst S (within_limit-ok names tells_names q r e).1 h

  abbrev answered : Sequent Name → Answer
  answered q = Ok q

  given : (q r : Sequent Name) → answered q ≡ Ok r → S q → S r
  given q r e h = subst S (same_Ok q r e) h

  parts-of : (q : Sequent Name) (e : Ty Name × Tm Name × Tm Name) → sides names q ≡ Ok e → S q → T e.0 × M e.1 × M e.2
  parts-of q e p h = eq-parts e.0 e.1 e.2 (subst M (sides-ok names tells_names q e p) h.1)

  pub app-named : (f x t : Tm Name) → M f → M x → app_rule names f x ≡ Ok t → M t
  app-named f x t h k e = subst M (sym (app_rule-ok names tells_names f x t e).0) (h, k)

  pub abs-named : (v : Variable Name) (b t : Tm Name) → T v.ty → M b → abs_rule names v b ≡ Ok t → M t
  abs-named v b t h k e =
      subst M (limit-ok (is_shallow names (Abs v.ty (close_at names 0 v b))) Nesting (Abs v.ty (close_at names 0 v b))
      t e).1 (h, close-named 0 v b k)

  pub op-named : (n : Name) (ts : Tys Name) (t : Ty Name) → P n → TysNamed P ts → op_rule names n ts ≡ Ok t → T t
  op-named n ts t h k e = subst T (sym (op_rule-ok names tells_names n ts t e).0) (h, k)

  pub refl-named : (t : Tm Name) (q : Sequent Name) → M t → refl_rule names t ≡ Ok q → S q
  refl-named t q h e = within (sequent_of names (equation names (type_of names t) t t)) q e
      (tt, eq-named (type_of names t) t t (type_of-named t h) h h)

  pub assume-named : (p : Tm Name) (q : Sequent Name) → M p → assume_rule names p ≡ Ok q → S q
  assume-named p q h e =
      subst S (limit-ok (has_type names p (bool_ty names)) NotBool (record { hyps = p ∷ []; concl = p }) q e).1
      ((h, tt), h)

  pub eq_mp-named : (l u q : Sequent Name) → S l → S u → eq_mp_rule names l u ≡ Ok q → S q
  eq_mp-named l u q h k e =
      let a = bind-ok (sides names l) _ _ e in
      let b = bind-ok (unless NotAlphaEqual (same_tm names a.0.1 u.concl)) _ _ a.2 in
      given (record { hyps = union names l.hyps u.hyps; concl = a.0.2 }) q b.2
      (union-all l.hyps u.hyps h.0 k.0, (parts-of l a.0 a.1 h).2)

  pub abs_thm-named : (v : Variable Name) (th q : Sequent Name) → T v.ty → S th → abs_thm_rule names v th ≡ Ok q → S q
  abs_thm-named v th q hv h e =
      let a = bind-ok (sides names th) _ _ e in
      let b = bind-ok (unless VarFreeInHyps (not (is_free_in_some names v th.hyps))) _ _ a.2 in
      let (ty, l, r) = parts-of th a.0 a.1 h in
      within (record {
        hyps = th.hyps;
        concl = equation names (fun_ty names v.ty a.0.0)
            (Abs v.ty (close_at names 0 v a.0.1)) (Abs v.ty (close_at names 0 v a.0.2));
      }) q b.2 (
        h.0,
        eq-named (fun_ty names v.ty a.0.0) (Abs v.ty (close_at names 0 v a.0.1))
            (Abs v.ty (close_at names 0 v a.0.2)) (fun-named v.ty a.0.0 hv ty) (hv, close-named 0 v a.0.1 l)
            (hv, close-named 0 v a.0.2 r),
      )

  pub app_thm-named : (l u q : Sequent Name) → S l → S u → app_thm_rule names l u ≡ Ok q → S q
  app_thm-named l u q h k e =
      let a = bind-ok (sides names l) _ _ e in
      let b = bind-ok (sides names u) _ _ a.2 in
      let c = bind-ok (some_or NotFunction (as_fun_ty names a.0.0)) _ _ b.2 in
      let d = bind-ok (unless ArgumentType (same_ty names c.0.0 b.0.0)) _ _ c.2 in
      let (ty, f, g) = parts-of l a.0 a.1 h in
      let (uy, x, y) = parts-of u b.0 b.1 k in
      let is = as_fun_ty-some names tells_names a.0.0 c.0.0 c.0.1
      (some_or-ok NotFunction (as_fun_ty names a.0.0) c.0 c.1) in
      let result : T c.0.1 = (subst T is ty).1.1.0 in
      within (record {
        hyps = union names l.hyps u.hyps;
        concl = equation names c.0.1 (App a.0.1 b.0.1)
            (App a.0.2 b.0.2);
      }) q d.2
      (union-all l.hyps u.hyps h.0 k.0, eq-named c.0.1 (App a.0.1 b.0.1) (App a.0.2 b.0.2) result (f, x) (g, y))

  pub deduct-named : (l u q : Sequent Name) → S l → S u → deduct_antisym_rule names l u ≡ Ok q → S q
  deduct-named l u q h k e =
      within (record {
        hyps = union names (minus names u.concl l.hyps) (minus names l.concl u.hyps);
        concl = equation names (bool_ty names) l.concl u.concl;
      }) q e (
        union-all (minus names u.concl l.hyps) (minus names l.concl u.hyps) (minus-all u.concl l.hyps h.0)
            (minus-all l.concl u.hyps k.0),
        eq-named (bool_ty names) l.concl u.concl bool-named h.1 k.1,
      )

  pub beta-named : (t : Tm Name) (q : Sequent Name) → M t → beta_conv_rule names t ≡ Ok q → S q
  beta-named (App (Abs a b) u) q h e =
      let ty = type_of names (App (Abs a b) u) in
      within (sequent_of names (equation names ty (App (Abs a b) u) (open_at names 0 u b))) q e (
        tt,
        eq-named ty (App (Abs a b) u) (open_at names 0 u b) (type_of-named (App (Abs a b) u) h) h
            (open-named 0 u b h.1 h.0.1),
      )
  beta-named t q h e = absurd (cc)

  pub subst_rule-named : (s : TypeMap names) (m : TermMap names) (th q : Sequent Name) → TypesNamed s → TermsNamed m
      → S th → subst_rule names s m th ≡ Ok q → S q
  subst_rule-named s m th q hs hm h e =
      within (record {
        hyps = once_each names (map (subst_tm names s m) th.hyps);
        concl = subst_tm names s m th.concl;
      }) q e (
        once-all (map (subst_tm names s m) th.hyps) (map-named s m hs hm th.hyps h.0),
        subst-named s m hs hm th.concl
            h.1,
      )

  pub sym-named : (th q : Sequent Name) → S th → sym_rule names th ≡ Ok q → S q
  sym-named th q h e =
      let a = bind-ok (sides names th) _ _ e in
      let (ty, l, r) = parts-of th a.0 a.1 h in
      within (record { hyps = th.hyps; concl = equation names a.0.0 a.0.2 a.0.1 }) q a.2
      (h.0, eq-named a.0.0 a.0.2 a.0.1 ty r l)

  pub trans-named : (l u q : Sequent Name) → S l → S u → trans_rule names l u ≡ Ok q → S q
  trans-named l u q h k e =
      let a = bind-ok (sides names l) _ _ e in
      let b = bind-ok (sides names u) _ _ a.2 in
      let (ty, x, y) = parts-of l a.0 a.1 h in
      let (uy, v, w) = parts-of u b.0 b.1 k in
      let hyps = union-all l.hyps u.hyps h.0 k.0 in
      let one : Sequent Name =
      record { hyps = union names l.hyps u.hyps; concl = equation names a.0.0 a.0.1 b.0.2 } in
      let two : Sequent Name =
      record { hyps = union names l.hyps u.hyps; concl = equation names a.0.0 b.0.1 a.0.2 } in
      go (same_tm names a.0.2 b.0.1) (same_tm names b.0.2 a.0.1) one two q (hyps, eq-named a.0.0 a.0.1 b.0.2 ty x w)
      (hyps, eq-named a.0.0 b.0.1 a.0.2 ty v y) b.2
    where
      go : (c d : Bool) (one two q : Sequent Name) → S one → S two
          → ◌≡◌ {A = Answer} (if c then Ok one else (if d then Ok two else Err NotAlphaEqual)) (Ok q) → S q
      go true d one two q h k e = given one q e h
      go false true one two q h k e = given two q e k
      go false false one two q h k e = absurd (cc)

  proved-named : (l u : Sequent Name) → S l → S u → S (proved_hyp names l u)
  proved-named l u h k = (union-all l.hyps (minus names l.concl u.hyps) h.0 (minus-all l.concl u.hyps k.0), k.1)

  pub prove_hyp-named : (l u q : Sequent Name) → S l → S u → prove_hyp_rule names l u ≡ Ok q → S q
  prove_hyp-named l u q h k e =
      given _ q e (go (not (is_in names u.concl l.hyps) && is_in names l.concl u.hyps) (proved_hyp names l u)
      (proved_hyp names u l) (proved-named l u h k) (proved-named u l k h))
    where
      go : (c : Bool) (a b : Sequent Name) → S a → S b → S (if c then a else b)
      go true a b h k = h
      go false a b h k = k

  pub axiom-named : (hyps : List (Tm Name)) (p : Tm Name) (q : Sequent Name) → Ms hyps → M p
      → axiom_rule hyps p ≡ Ok q → S q
  axiom-named hyps p q h k e =
      let a = bind-ok (unless NotBool (has_type names p (bool_ty names))) _ _ e in
      let b = bind-ok (unless NotBool (list_all (λ h. has_type names h (bool_ty names)) hyps)) _ _ a.2 in
      given (record { hyps = once_each names hyps; concl = p }) q b.2 (once-all hyps h, k)
