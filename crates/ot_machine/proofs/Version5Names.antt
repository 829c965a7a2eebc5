-- `defineTypeOp` of version 5 keeps a state lawful, where the names in the values of what rests on a run may be used.
use Rattle.std.specs.Prelude.{◌≡◌, ◌≤◌, ◌+◌, ℕ, zero, suc, List, [], ◌∷◌}
use Rattle.std.specs.Prelude.{Option, Some, None, Result, Ok, slice_get, codes}
use Rattle.std.specs.Option.{unwrap_or}
use Rattle.std.specs.List.{AllByRecursion}
use Rattle.std.proofs.lemmas.Option.{same_Some}
use Rattle.ot_laws.proofs.Tests.{tells_names}
use Rattle.ot_laws.proofs.Typing.{result_ty-some, abs-some}
use Rattle.std.specs.List.{All}
use Rattle.std.proofs.Common.{refl, sym, ap, ◌∙◌, subst, arith}
use Rattle.std.proofs.lemmas.List.Elements.{All-nil, All-cons, All-head, All-tail}
use Rattle.ot_logic.specs.Names.{Name}
use Rattle.ot_logic.specs.Naming.{names}
use Rattle.ot_logic.specs.Trees.{Ty, Tys, TyVar, TyOp, NoTys, MoreTys, Tm, Free, Con, Bound, App, Abs}
use Rattle.ot_logic.specs.Hol.{type_in, type_of, result_ty, applied, tys_of_vars, fun_ty, bool_ty, depth_limit}
use Rattle.ot_logic.specs.Faults.{Fault}
use Rattle.ot_logic.specs.declared.command.Cmd.TheVariants as words
use Rattle.ot_interp.specs.Interpretation.{renamed}
use Rattle.ot_kernel.specs.Defining.{type_definition}
use Rattle.ot_trace.specs.Origins.{Origin, Named, Define, make_one, make_two, from_list}
use Rattle.ot_machine.specs.States.{Entry, State, Context}
use Rattle.ot_machine.specs.Places.{theorem_on, names_on, name_on, list_on, as_each, as_name}
use Rattle.ot_machine.specs.Rows.{type_op_entry, constant_entry, origin_at}
use Rattle.ot_machine.specs.Lawful.{Basis, run_basis, RestsOn, EntryFits, IsLawful, IsNaming, Keeps}
use Rattle.ot_machine.specs.Values.{value}
use Rattle.ot_machine.specs.Objects.{Object, Objects, name, list, theorem, no_objects, more_objects}
use Rattle.ot_machine.proofs.NamedValues.{value-named}
use Rattle.ot_machine.proofs.CanonLow.{canon-low}
use Rattle.ot_machine.specs.NamesIn.{TyNamed, TysNamed, TmNamed, ObjectNamed, ObjectsNamed, HasVersion5}
use Rattle.ot_machine.specs.Version5.{canon_ty, canon_tys, canon_under, numbered_variable, binders, or_nil, abs_origin}
use Rattle.ot_machine.specs.Version5.{abs_value, rep_origin, rep_value, open_theorems, define_type_op_5_row}
use Rattle.ot_machine.proofs.Tops.{same-ok}
use Rattle.ot_machine.proofs.Fewer.{none-fewer, type_definition-fewer}
use Rattle.ot_machine.proofs.StackRows.{AllFit, name-held, constant-fits, type_op-fits}
use Rattle.ot_machine.proofs.ArticleRows.{theorem-at, list-at}
use Rattle.ot_machine.proofs.RunRows.{answer}
use Rattle.ot_machine.proofs.DefinitionRows.{defined-pushes, type-read}
use Rattle.ot_logic.proofs.Results.{bind-ok}

module _ (b : Basis) (has : HasVersion5 b.IsNamed) where
  abbrev P : Name → Type 0
  P = b.IsNamed

  mutual
    ty-rests : (t : Ty Name) → TyNamed P t → RestsOn b (canon_ty t)
    ty-rests (TyVar n) h = ((h, tt), tt)
    ty-rests (TyOp n ts) h = ((((h.0, tt), tt), (tys-rest ts h.1, tt)), tt)

    tys-rest : (ts : Tys Name) → TysNamed P ts → RestsOn b (canon_tys ts)
    tys-rest NoTys h = (tt, tt)
    tys-rest (MoreTys t ts) h = ((ty-rests t h.0, (tys-rest ts h.1, tt)), tt)

  at-rests : (vs : List (Origin Name)) → All (RestsOn b) vs → (i : ℕ) → RestsOn b (or_nil (slice_get vs i))
  at-rests [] all i = (tt, tt)
  at-rests (v ∷ vs) all zero = All-head (RestsOn b) v vs all
  at-rests (v ∷ vs) all (suc i) = at-rests vs (All-tail (RestsOn b) v vs all) i

  tm-rests : (k : ℕ) (vs : List (Origin Name)) → All (RestsOn b) vs → (t : Tm Name) → k + binders t ≤ depth_limit
      → TmNamed P t → RestsOn b (canon_under k vs t)
  tm-rests k vs all (Free v) low h = ((((h.0, (ty-rests v.ty h.1, tt)), tt), tt), tt)
  tm-rests k vs all (Con n t) low h = ((((h.0, tt), tt), (ty-rests t h.1, tt)), tt)
  tm-rests k vs all (Bound i) low h = ((at-rests vs all i, tt), tt)
  tm-rests k vs all (App f x) low h =
      ((tm-rests k vs all f (omega (arith, low)) h.0, (tm-rests k vs all x (omega (arith, low)) h.1, tt)), tt)
  tm-rests k vs all (Abs t c) low h =
      let v : RestsOn b (numbered_variable k t) = ((has.binders k (omega (arith, low)), (ty-rests t h.0, tt)), tt) in (
        (
          v,
          (
            tm-rests (suc k) (numbered_variable k t ∷ vs) (All-cons (RestsOn b) (numbered_variable k t) vs v all) c (omega (arith, low))
                h.1,
            tt,
          ),
        ),
        tt,
      )

  abbrev On : Origin Name → Type 0
  On = RestsOn b

  var-rests : (n : Name) (t : Ty Name) → P n → TyNamed P t → On (make_two words.Var (Named n) (canon_ty t))
  var-rests n t p h = ((p, (ty-rests t h, tt)), tt)

  const-rests : (n : Name) (t : Ty Name) → P n → TyNamed P t
      → On (make_two words.ConstTerm (make_one words.Const (Named n)) (canon_ty t))
  const-rests n t p h = ((((p, tt), tt), (ty-rests t h, tt)), tt)

  fun-named : (t u : Ty Name) → TyNamed P t → TyNamed P u → TyNamed P (fun_ty names t u)
  fun-named t u h k = (has.primitives.arrow, (h, (k, tt)))

  bool-named : TyNamed P (bool_ty names)
  bool-named = (has.primitives.bool_name, tt)

  module _ (o : Origin Name) (abs rep : Name) (new old : Ty Name) (p : Tm Name) (rests : On o)
      (to : P abs) (from : P rep) (new_named : TyNamed P new) (old_named : TyNamed P old)
      (p_named : TmNamed P p) where
    abs-rests : On (abs_origin abs rep new old p o)
    abs-rests =
        let a = var-rests (codes "a" ∷ []) new has.a new_named in
        let f = const-rests abs (fun_ty names old new) to (fun-named old new old_named new_named) in
        let g = const-rests rep (fun_ty names new old) from (fun-named new old new_named old_named) in (
          (
            (
              (
                (
                  (
                    (
                      (((((a, (((f, (((g, (((a, tt), tt), tt)), tt), tt)), tt), tt)), tt), (((a, tt), tt), tt)), tt), tt),
                      tt,
                    ),
                    tt,
                  ),
                  tt,
                ),
                (((rests, (((((a, tt), tt), tt), tt), tt)), tt), tt),
              ),
              tt,
            ),
            (((((((a, (((a, tt), tt), tt)), tt), (((a, tt), tt), tt)), tt), tt), tt), tt),
          ),
          tt,
        )

    rep-rests : binders p ≤ depth_limit → On (rep_origin abs rep new old p o)
    rep-rests low =
        let r = var-rests (codes "r" ∷ []) old has.r old_named in
        let f = const-rests abs (fun_ty names old new) to (fun-named old new old_named new_named) in
        let g = const-rests rep (fun_ty names new old) from (fun-named new old new_named old_named) in
        let e = const-rests names.equals (fun_ty names old (fun_ty names old (bool_ty names))) has.primitives.equals
        (fun-named old (fun_ty names old (bool_ty names)) old_named
        (fun-named old (bool_ty names) old_named bool-named)) in
        let q = tm-rests 0 [] (All-nil On) p (omega (arith, low)) p_named in (
          (
            (
              (
                ((((((((r, (((q, (((r, tt), tt), tt)), tt), tt)), tt), (((r, tt), tt), tt)), tt), tt), tt), tt), tt),
                (((((rests, (((((r, tt), tt), tt), tt), tt)), tt), tt), tt), tt),
              ),
              tt,
            ),
            (
              (
                (
                  (
                    (
                      (
                        (
                          r,
                          (
                            ((((e, (((g, (((f, (((r, tt), tt), tt)), tt), tt)), tt), tt)), tt), (((r, tt), tt), tt)), tt),
                            tt,
                          ),
                        ),
                        tt,
                      ),
                      (((r, tt), tt), tt),
                    ),
                    tt,
                  ),
                  tt,
                ),
                tt,
              ),
              tt,
            ),
          ),
          tt,
        )

  abbrev gives : Object → Result Object (Fault Name)
  gives v = Ok v

  abbrev listed : List Entry → Result (List Entry) (Fault Name)
  listed es = Ok es

  -- the type of a term has its names
  result-named : (f x t : Ty Name) → TyNamed P f → result_ty names f x ≡ Some t → TyNamed P t
  result-named f x t h e = let is = result_ty-some names tells_names f x t e in (subst (TyNamed P) is h).1.1.0

  applied-named : (o u : Option (Ty Name)) (t : Ty Name) → ((s : Ty Name) → o ≡ Some s → TyNamed P s)
      → applied names o u ≡ Some t → TyNamed P t
  applied-named (Some f) (Some x) t h e = result-named f x t (h f refl) e
  applied-named (Some f) None t h e = absurd (cc)
  applied-named None u t h e = absurd (cc)

  slot-named : (l : List (Ty Name)) (i : ℕ) (t : Ty Name) → AllByRecursion (TyNamed P) l → slice_get l i ≡ Some t
      → TyNamed P t
  slot-named [] i t h e = absurd (cc)
  slot-named (u ∷ l) zero t h e = subst (TyNamed P) (same_Some u t e) h.0
  slot-named (u ∷ l) (suc i) t h e = slot-named l i t h.1 e

  type-named : (l : List (Ty Name)) (t : Tm Name) (ty : Ty Name) → AllByRecursion (TyNamed P) l → TmNamed P t
      → type_in names l t ≡ Some ty → TyNamed P ty
  type-named l (Free v) ty all h e = subst (TyNamed P) (same_Some v.ty ty e) h.1
  type-named l (Con n t) ty all h e = subst (TyNamed P) (same_Some t ty e) h.1
  type-named l (Bound i) ty all h e = slot-named l i ty all e
  type-named l (App f x) ty all h e =
      applied-named (type_in names l f) (type_in names l x) ty (λ s. type-named l f s all h.0) e
  type-named l (Abs t c) ty all h e =
      let (u, p, q) = abs-some names t (type_in names (t ∷ l) c) ty e in
      subst (TyNamed P) (sym q) (fun-named t u h.0 (type-named (t ∷ l) c u (h.0, all) h.1 p))

  type_of-named : (t : Tm Name) → TmNamed P t → TyNamed P (type_of names t)
  type_of-named t h = go (type_in names [] t) refl
    where
      go : (o : Option (Ty Name)) → type_in names [] t ≡ o → TyNamed P (unwrap_or o (bool_ty names))
      go (Some ty) e = type-named [] t ty tt h e
      go None e = bool-named

  open-fit : (abs rep : Name) (new : Ty Name) (t : Tm Name) (qs ths : List Entry) → AllFit b qs → P abs → P rep
      → TyNamed P new → TmNamed P t → open_theorems abs rep new t qs ≡ listed ths → AllFit b ths
  open-fit abs rep new (App p t) (x ∷ y ∷ []) ths all to from new_named h q =
      let old = type_of names t in
      let old_named = type_of-named t h.1 in
      let fx = All-head (EntryFits b) x (y ∷ []) all in
      let fy = All-head (EntryFits b) y [] (All-tail (EntryFits b) x (y ∷ []) all) in
      let u = bind-ok (abs_value abs rep new old p (Ok x.object)) _ _ q in
      let v = bind-ok (rep_value abs rep new old p (Ok y.object)) _ _ u.2 in
      let first : value (abs_origin abs rep new old p x.origin) ≡ gives u.0 =
      ap (abs_value abs rep new old p) fx.value_is ∙ u.1 in
      let second : value (rep_origin abs rep new old p y.origin) ≡ gives v.0 =
      ap (rep_value abs rep new old p) fy.value_is ∙ v.1 in
      let a : Entry = record { object = u.0; origin = abs_origin abs rep new old p x.origin } in
      let c : Entry = record { object = v.0; origin = rep_origin abs rep new old p y.origin } in
      let f : EntryFits b a =
      record {
        value_is = first;
        rests = abs-rests x.origin abs rep new old p fx.rests to from new_named old_named
            h.0;
      } in
      let g : EntryFits b c =
      record {
        value_is = second;
        rests = rep-rests y.origin abs rep new old p fy.rests to from new_named
            old_named h.0 (canon-low y.origin abs rep new old p v.0 second);
      } in
      subst (AllFit b) (same-ok (listed (a ∷ c ∷ [])) _ ths refl v.2)
      (All-cons (EntryFits b) a (c ∷ []) f (All-cons (EntryFits b) c [] g (All-nil (EntryFits b))))
  open-fit abs rep new t qs ths all to from new_named h q = absurd (cc)

module _ (P : Name → Type 0) (has : HasVersion5 P) where
  -- the row of version 5 keeps a state lawful
  pub type_op_5-keeps : (c : Context) (s t : State) → IsNaming P c → IsLawful P s → define_type_op_5_row c s
      ≡ answer t → Keeps P s t
  type_op_5-keeps c s t naming h p =
      let stack = s.article.stack in
      let b = run_basis P s.run in
      let th = bind-ok (theorem_on 0 stack) _ _ p in
      let vs = bind-ok (names_on 1 stack) _ _ th.2 in
      let rep = bind-ok (name_on 2 stack) _ _ vs.2 in
      let abs = bind-ok (name_on 3 stack) _ _ rep.2 in
      let n = bind-ok (name_on 4 stack) _ _ abs.2 in
      let l = bind-ok (list_on 1 stack) (as_each as_name) vs.0 vs.1 in
      let op = renamed names c.interpretation.type_ops n.0 in
      let x = renamed names c.interpretation.constants abs.0 in
      let r = renamed names c.interpretation.constants rep.0 in
      let f = theorem-at b 0 stack th.0 h.article.stack th.1 in
      let g = list-at b 1 stack l.0 h.article.stack l.1 in
      let op-ok : P op = naming.type_ops n.0 (name-held b 4 stack n.0 h.article.stack n.1) in
      let x-ok : P x = naming.constants abs.0 (name-held b 3 stack abs.0 h.article.stack abs.1) in
      let r-ok : P r = naming.constants rep.0 (name-held b 2 stack rep.0 h.article.stack rep.1) in
      let premise : TmNamed P th.0.concl =
      (value-named b has.primitives (origin_at 0 stack) (theorem th.0) f.rests f.value_is).1 in
      let listed : ObjectsNamed P l.0 =
      value-named b has.primitives (origin_at 1 stack) (list l.0) g.rests g.value_is in
      let vars : TysNamed P (tys_of_vars names vs.0) = list-names l.0 vs.0 listed l.2 in
      let d = Define words.DefineTypeOp
      (from_list (Named op ∷ Named x ∷ Named r ∷ origin_at 1 stack ∷ origin_at 0 stack ∷ [])) in
      let new = TyOp op (tys_of_vars names vs.0) in
      defined-pushes P 5 s t (type_op_entry op ∷ constant_entry x ∷ constant_entry r ∷ [])
      (λ ds. type_definition names ds op x r vs.0 th.0) d
      (open_theorems x r new th.0.concl)
      (λ b e is rests qs ths all q.
      open-fit b (subst HasVersion5 (sym e) has) x r new th.0.concl qs ths all
      (subst (λ (Q : Name → Type 0). Q x) (sym e) x-ok) (subst (λ (Q : Name → Type 0). Q r) (sym e) r-ok)
      (subst (λ (Q : Name → Type 0). TyNamed Q new) (sym e) (op-ok, vars))
      (subst (λ (Q : Name → Type 0). TmNamed Q th.0.concl) (sym e) premise) q)
      h (λ ds. type-read (origin_at 1 stack) (origin_at 0 stack) op x r l.0 vs.0 th.0 ds g.value_is f.value_is l.2)
      (λ z es. type_definition-fewer [] es (none-fewer es) op x r vs.0 th.0 z)
      (op-ok, (x-ok, (r-ok, (g.rests, (f.rests, tt)))))
      (All-cons (EntryFits b) (type_op_entry op) (constant_entry x ∷ constant_entry r ∷ []) (type_op-fits b op op-ok)
      (All-cons (EntryFits b) (constant_entry x) (constant_entry r ∷ []) (constant-fits b x x-ok)
      (All-cons (EntryFits b) (constant_entry r) [] (constant-fits b r r-ok) (All-nil (EntryFits b)))))
      n.2
    where
      one-name : (o : Object) (m : Name) → ObjectNamed P o → as_name o ≡ Ok m → P m
      one-name (name k) m h e = subst P (same-ok (as_name (name k)) k m refl e) h
      one-name o m h e = absurd (cc)

      list-names : (os : Objects) (ns : List Name) → ObjectsNamed P os → as_each as_name os ≡ Ok ns
          → TysNamed P (tys_of_vars names ns)
      list-names no_objects ns h e =
          subst (λ ns. TysNamed P (tys_of_vars names ns)) (same-ok (as_each as_name no_objects) [] ns refl e) tt
      list-names (more_objects o os) ns h e =
          let a = bind-ok (as_name o) _ _ e in
          let c = bind-ok (as_each as_name os) _ _ a.2 in
          subst (λ ns. TysNamed P (tys_of_vars names ns)) (same-ok (Ok (a.0 ∷ c.0)) (a.0 ∷ c.0) ns refl c.2)
          (one-name o a.0 h.0 a.1, list-names os c.0 h.1 c.1)
