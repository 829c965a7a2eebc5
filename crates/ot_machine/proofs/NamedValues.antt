-- The names in the value of an origin are names of the origin, or primitive.
use Rattle.std.specs.Prelude.{◌≡◌, ◌==◌, ◌-◌, nat_lt, nat_le, ℕ, zero, suc, Bool, true, false, if◌then◌else◌}
use Rattle.std.specs.Prelude.{List, [], ◌∷◌, ◌++◌, map, length, Some, Result, Ok, Err, slice_get}
use Rattle.std.specs.List.{AllByRecursion, list_all}
use Rattle.std.proofs.Common.{subst, arith}
use Rattle.std.proofs.lemmas.Bool.{eqb-true}
use Rattle.std.proofs.lemmas.Option.{same_Some}
use Rattle.ot_logic.specs.Names.{Name}
use Rattle.ot_logic.specs.Naming.{names}
use Rattle.ot_logic.specs.Trees.{Ty, TyVar, TyOp, Variable, Tm, Free, Con, Bound, App}
use Rattle.ot_logic.specs.Trees.{Abs, Sequent, Definition, ConDef, ListDef, TyDef}
use Rattle.ot_logic.specs.Hol.{fun_ty, bool_ty, depth_limit, type_of, TypeMap, TermMap, constants_for}
use Rattle.ot_logic.specs.Hol.{equation, is_shallow_sequent, theorems, theorems_at, tys_of_vars}
use Rattle.ot_logic.specs.Faults.{Fault, StackEmpty, Nesting, BadSubst, BadDefinitionList}
use Rattle.ot_logic.specs.Answers.{◌>>=◌, unless, some_or}
use Rattle.ot_logic.specs.Rules.{op_rule, app_rule, abs_rule, refl_rule, assume_rule, eq_mp_rule}
use Rattle.ot_logic.specs.Rules.{abs_thm_rule, app_thm_rule, deduct_antisym_rule, beta_conv_rule}
use Rattle.ot_logic.specs.Rules.{subst_rule, sym_rule, trans_rule, prove_hyp_rule, has_type}
use Rattle.ot_logic.specs.declared.command.Cmd.{Cmd}
use Rattle.ot_logic.specs.declared.command.Cmd.TheVariants as words
use Rattle.ot_laws.proofs.Steps.{limit-ok}
use Rattle.ot_laws.specs.Conditions.{checked_const, checked_list, checked_type}
use Rattle.ot_kernel.specs.Axioms.{axiom_rule}
use Rattle.ot_kernel.specs.Defining.{limited_definition, zipped}
use Rattle.ot_trace.specs.Origins.{Origin, Origins, Number, Named, Make, Define, Outcome, NoOrigins, MoreOrigins}
use Rattle.ot_machine.specs.Objects.{Object, Objects, number, name, list, type_op, a_type, constant}
use Rattle.ot_machine.specs.Objects.{variable, term, theorem, no_objects, more_objects, nesting}
use Rattle.ot_machine.specs.Places.{as_name, as_list, as_type_op, as_type, as_constant}
use Rattle.ot_machine.specs.Places.{as_variable, as_term, as_theorem, as_each, arguments}
use Rattle.ot_machine.specs.Parts.{or_bad, two_of}
use Rattle.ot_kernel.specs.Pairs.{with_type, with_term}
use Rattle.ot_machine.specs.Substitutions.{type_pair, term_pair, types_onto, terms_onto, maps_of}
use Rattle.ot_machine.specs.DefinitionLists.{definition_pair, pairs_of}
use Rattle.ot_machine.specs.Makers.{Read, Maker, of_none, of_top, of_two, no_maker, maker, cons_made}
use Rattle.ot_machine.specs.Makers.{type_op_made, op_type_made, var_type_made, var_made, var_term_made}
use Rattle.ot_machine.specs.Makers.{const_made, const_term_made, app_term_made, abs_term_made}
use Rattle.ot_machine.specs.Makers.{one_theorem_made, two_theorems_made, abs_thm_made, subst_made, axiom_made}
use Rattle.ot_machine.specs.Values.{value, values, value_at, applied, definition_of, theorem_of, const_defined}
use Rattle.ot_machine.specs.Values.{list_defined, type_defined, defined_by, defines, definition_arity}
use Rattle.ot_machine.specs.Lawful.{Basis, RestsOn, AreOn}
use Rattle.ot_machine.specs.NamesIn.{TyNamed, TysNamed, TmNamed, SequentNamed}
use Rattle.ot_machine.specs.NamesIn.{ObjectNamed, ObjectsNamed, HasPrimitives}
use Rattle.ot_machine.proofs.NamedRules.{TypesNamed, TermsNamed, fun-named, bool-named, eq-named, type_of-named}
use Rattle.ot_machine.proofs.NamedRules.{subst-named, op-named, app-named, abs-named, refl-named, assume-named}
use Rattle.ot_machine.proofs.NamedRules.{eq_mp-named, abs_thm-named, app_thm-named, deduct-named, beta-named}
use Rattle.ot_machine.proofs.NamedRules.{subst_rule-named, sym-named, trans-named, prove_hyp-named, axiom-named}
use Rattle.ot_machine.proofs.ObjectKinds.{or_bad-is}
use Rattle.ot_logic.proofs.Results.{bind-ok, same_Ok, some_or-ok, unless-ok}

module _ (P : Name → Type 0) (has : HasPrimitives P) where
  abbrev T : Ty Name → Type 0
  T = TyNamed P

  abbrev M : Tm Name → Type 0
  M = TmNamed P

  abbrev S : Sequent Name → Type 0
  S = SequentNamed P

  abbrev O : Object → Type 0
  O = ObjectNamed P

  abbrev Os : Objects → Type 0
  Os = ObjectsNamed P

  abbrev V : Variable Name → Type 0
  V v = P v.name × T v.ty

  -- ---- an object of one kind
  name-held : (o : Object) (x : Name) → O o → as_name o ≡ Ok x → P x
  name-held (number k) x h e = absurd (cc)
  name-held (name n) x h e = subst P (same_Ok n x e) h
  name-held (list os) x h e = absurd (cc)
  name-held (type_op n) x h e = absurd (cc)
  name-held (a_type t) x h e = absurd (cc)
  name-held (constant n) x h e = absurd (cc)
  name-held (variable v) x h e = absurd (cc)
  name-held (term t) x h e = absurd (cc)
  name-held (theorem q) x h e = absurd (cc)

  list-held : (o : Object) (x : Objects) → O o → as_list o ≡ Ok x → ObjectsNamed P x
  list-held (number k) x h e = absurd (cc)
  list-held (name n) x h e = absurd (cc)
  list-held (list os) x h e = subst Os (same_Ok os x e) h
  list-held (type_op n) x h e = absurd (cc)
  list-held (a_type t) x h e = absurd (cc)
  list-held (constant n) x h e = absurd (cc)
  list-held (variable v) x h e = absurd (cc)
  list-held (term t) x h e = absurd (cc)
  list-held (theorem q) x h e = absurd (cc)

  type_op-held : (o : Object) (x : Name) → O o → as_type_op o ≡ Ok x → P x
  type_op-held (number k) x h e = absurd (cc)
  type_op-held (name n) x h e = absurd (cc)
  type_op-held (list os) x h e = absurd (cc)
  type_op-held (type_op n) x h e = subst P (same_Ok n x e) h
  type_op-held (a_type t) x h e = absurd (cc)
  type_op-held (constant n) x h e = absurd (cc)
  type_op-held (variable v) x h e = absurd (cc)
  type_op-held (term t) x h e = absurd (cc)
  type_op-held (theorem q) x h e = absurd (cc)

  type-held : (o : Object) (x : Ty Name) → O o → as_type o ≡ Ok x → T x
  type-held (number k) x h e = absurd (cc)
  type-held (name n) x h e = absurd (cc)
  type-held (list os) x h e = absurd (cc)
  type-held (type_op n) x h e = absurd (cc)
  type-held (a_type t) x h e = subst T (same_Ok t x e) h
  type-held (constant n) x h e = absurd (cc)
  type-held (variable v) x h e = absurd (cc)
  type-held (term t) x h e = absurd (cc)
  type-held (theorem q) x h e = absurd (cc)

  constant-held : (o : Object) (x : Name) → O o → as_constant o ≡ Ok x → P x
  constant-held (number k) x h e = absurd (cc)
  constant-held (name n) x h e = absurd (cc)
  constant-held (list os) x h e = absurd (cc)
  constant-held (type_op n) x h e = absurd (cc)
  constant-held (a_type t) x h e = absurd (cc)
  constant-held (constant n) x h e = subst P (same_Ok n x e) h
  constant-held (variable v) x h e = absurd (cc)
  constant-held (term t) x h e = absurd (cc)
  constant-held (theorem q) x h e = absurd (cc)

  variable-held : (o : Object) (x : Variable Name) → O o → as_variable o ≡ Ok x → P x.name × T x.ty
  variable-held (number k) x h e = absurd (cc)
  variable-held (name n) x h e = absurd (cc)
  variable-held (list os) x h e = absurd (cc)
  variable-held (type_op n) x h e = absurd (cc)
  variable-held (a_type t) x h e = absurd (cc)
  variable-held (constant n) x h e = absurd (cc)
  variable-held (variable v) x h e = subst (λ (v : Variable Name). P v.name × T v.ty) (same_Ok v x e) h
  variable-held (term t) x h e = absurd (cc)
  variable-held (theorem q) x h e = absurd (cc)

  term-held : (o : Object) (x : Tm Name) → O o → as_term o ≡ Ok x → M x
  term-held (number k) x h e = absurd (cc)
  term-held (name n) x h e = absurd (cc)
  term-held (list os) x h e = absurd (cc)
  term-held (type_op n) x h e = absurd (cc)
  term-held (a_type t) x h e = absurd (cc)
  term-held (constant n) x h e = absurd (cc)
  term-held (variable v) x h e = absurd (cc)
  term-held (term t) x h e = subst M (same_Ok t x e) h
  term-held (theorem q) x h e = absurd (cc)

  theorem-held : (o : Object) (x : Sequent Name) → O o → as_theorem o ≡ Ok x → S x
  theorem-held (number k) x h e = absurd (cc)
  theorem-held (name n) x h e = absurd (cc)
  theorem-held (list os) x h e = absurd (cc)
  theorem-held (type_op n) x h e = absurd (cc)
  theorem-held (a_type t) x h e = absurd (cc)
  theorem-held (constant n) x h e = absurd (cc)
  theorem-held (variable v) x h e = absurd (cc)
  theorem-held (term t) x h e = absurd (cc)
  theorem-held (theorem q) x h e = subst S (same_Ok q x e) h

  -- ---- lists of one kind
  each-held : {A : Type 0} (Q : A → Type 0) (as_one : Object → Result A (Fault Name))
      → ((o : Object) (x : A) → O o → as_one o ≡ Ok x → Q x) → (os : Objects) (xs : List A) → Os os
      → as_each as_one os ≡ Ok xs → AllByRecursion Q xs
  each-held Q as_one one no_objects xs h e = subst (AllByRecursion Q) (same_Ok [] xs e) tt
  each-held Q as_one one (more_objects o os) xs h e =
      let a = bind-ok (as_one o) _ _ e in
      let b = bind-ok (as_each as_one os) _ _ a.2 in
      subst (AllByRecursion Q) (same_Ok (a.0 ∷ b.0) xs b.2) (one o a.0 h.0 a.1, each-held Q as_one one os b.0 h.1 b.1)

  arguments-named : (ts : List (Ty Name)) → AllByRecursion T ts → TysNamed P (arguments ts)
  arguments-named [] h = tt
  arguments-named (t ∷ ts) h = (h.0, arguments-named ts h.1)

  -- ---- the lists that are read as a whole
  two-held : (f : Fault Name) (os : Objects) (p : Object × Object) → Os os → two_of f os ≡ Ok p → O p.0 × O p.1
  two-held f no_objects p h e = absurd (cc)
  two-held f (more_objects o no_objects) p h e = absurd (cc)
  two-held f (more_objects o (more_objects q no_objects)) p h e =
      subst (λ (z : Object × Object). O z.0 × O z.1) (same_Ok (o, q) p e) (h.0, h.1.0)
  two-held f (more_objects o (more_objects q (more_objects r os))) p h e = absurd (cc)

  type_pair-held : (o : Object) (p : Name × Ty Name) → O o → type_pair o ≡ Ok p → P p.0 × T p.1
  type_pair-held o p h e =
      let a = bind-ok (or_bad BadSubst (as_list o)) _ _ e in
      let b = bind-ok (two_of BadSubst a.0) _ _ a.2 in
      let c = bind-ok (or_bad BadSubst (as_name b.0.0)) _ _ b.2 in
      let d = bind-ok (or_bad BadSubst (as_type b.0.1)) _ _ c.2 in
      let l = list-held o a.0 h (or_bad-is BadSubst (as_list o) a.0 a.1) in
      let (x, y) = two-held BadSubst a.0 b.0 l b.1 in
      let n = name-held b.0.0 c.0 x (or_bad-is BadSubst (as_name b.0.0) c.0 c.1) in
      let t = type-held b.0.1 d.0 y (or_bad-is BadSubst (as_type b.0.1) d.0 d.1) in
      subst (λ (z : Name × Ty Name). P z.0 × T z.1) (same_Ok (c.0, d.0) p d.2) (n, t)

  term_pair-held : (o : Object) (p : Variable Name × Tm Name) → O o → term_pair o ≡ Ok p → V p.0 × M p.1
  term_pair-held o p h e =
      let a = bind-ok (or_bad BadSubst (as_list o)) _ _ e in
      let b = bind-ok (two_of BadSubst a.0) _ _ a.2 in
      let c = bind-ok (or_bad BadSubst (as_variable b.0.0)) _ _ b.2 in
      let d = bind-ok (or_bad BadSubst (as_term b.0.1)) _ _ c.2 in
      let l = list-held o a.0 h (or_bad-is BadSubst (as_list o) a.0 a.1) in
      let (x, y) = two-held BadSubst a.0 b.0 l b.1 in
      let v = variable-held b.0.0 c.0 x (or_bad-is BadSubst (as_variable b.0.0) c.0 c.1) in
      let t = term-held b.0.1 d.0 y (or_bad-is BadSubst (as_term b.0.1) d.0 d.1) in
      subst (λ (z : Variable Name × Tm Name). V z.0 × M z.1) (same_Ok (c.0, d.0) p d.2) (v, t)

  definition_pair-held : (o : Object) (p : Name × Variable Name) → O o → definition_pair o ≡ Ok p → P p.0 × V p.1
  definition_pair-held o p h e =
      let a = bind-ok (or_bad BadDefinitionList (as_list o)) _ _ e in
      let b = bind-ok (two_of BadDefinitionList a.0) _ _ a.2 in
      let c = bind-ok (or_bad BadDefinitionList (as_name b.0.0)) _ _ b.2 in
      let d = bind-ok (or_bad BadDefinitionList (as_variable b.0.1)) _ _ c.2 in
      let l = list-held o a.0 h (or_bad-is BadDefinitionList (as_list o) a.0 a.1) in
      let (x, y) = two-held BadDefinitionList a.0 b.0 l b.1 in
      let n = name-held b.0.0 c.0 x (or_bad-is BadDefinitionList (as_name b.0.0) c.0 c.1) in
      let v = variable-held b.0.1 d.0 y (or_bad-is BadDefinitionList (as_variable b.0.1) d.0 d.1) in
      subst (λ (z : Name × Variable Name). P z.0 × V z.1) (same_Ok (c.0, d.0) p d.2) (n, v)

  append-held : {A : Type 0} (Q : A → Type 0) (xs ys : List A) → AllByRecursion Q xs → AllByRecursion Q ys
      → AllByRecursion Q (xs ++ ys)
  append-held Q [] ys h k = k
  append-held Q (x ∷ xs) ys h k = (h.0, append-held Q xs ys h.1 k)

  or-held : {A : Type 0} (Q : A → Type 0) (c : Bool) (xs ys : List A) → AllByRecursion Q xs → AllByRecursion Q ys
      → AllByRecursion Q (if c then xs else ys)
  or-held Q true xs ys h k = h
  or-held Q false xs ys h k = k

  abbrev HeldType : Name × Ty Name → Type 0
  HeldType p = T p.1

  abbrev HeldTerm : Variable Name × Tm Name → Type 0
  HeldTerm p = M p.1

  types_onto-held : (os : Objects) (s r : TypeMap names) → Os os → TypesNamed P has s → types_onto s os ≡ Ok r
      → TypesNamed P has r
  types_onto-held no_objects s r h k e = subst (TypesNamed P has) (same_Ok s r e) k
  types_onto-held (more_objects o os) s r h k e =
      let a = bind-ok (type_pair o) _ _ e in
      let (n, t) = type_pair-held o a.0 h.0 a.1 in
      types_onto-held os (with_type s a.0.0 a.0.1) r h.1
      (or-held HeldType _ s (s ++ (a.0.0, a.0.1) ∷ []) k (append-held HeldType s ((a.0.0, a.0.1) ∷ []) k (t, tt)))
      a.2

  terms_onto-held : (os : Objects) (m r : TermMap names) → Os os → TermsNamed P has m → terms_onto m os ≡ Ok r
      → TermsNamed P has r
  terms_onto-held no_objects m r h k e = subst (TermsNamed P has) (same_Ok m r e) k
  terms_onto-held (more_objects o os) m r h k e =
      let a = bind-ok (term_pair o) _ _ e in
      let b = bind-ok (unless BadSubst (has_type names a.0.1 a.0.0.ty)) _ _ a.2 in
      let (v, t) = term_pair-held o a.0 h.0 a.1 in
      terms_onto-held os (with_term m a.0.0 a.0.1) r h.1
      (or-held HeldTerm _ m (m ++ (a.0.0, a.0.1) ∷ []) k (append-held HeldTerm m ((a.0.0, a.0.1) ∷ []) k (t, tt)))
      b.2

  maps-held : (os : Objects) (p : TypeMap names × TermMap names) → Os os → maps_of os ≡ Ok p
      → TypesNamed P has p.0 × TermsNamed P has p.1
  maps-held os p h e =
      let a = bind-ok (two_of BadSubst os) _ _ e in
      let b = bind-ok (or_bad BadSubst (as_list a.0.0)) _ _ a.2 in
      let c = bind-ok (or_bad BadSubst (as_list a.0.1)) _ _ b.2 in
      let d = bind-ok (types_onto [] b.0) _ _ c.2 in
      let f = bind-ok (terms_onto [] c.0) _ _ d.2 in
      let (x, y) = two-held BadSubst os a.0 h a.1 in
      let s = types_onto-held b.0 [] d.0 (list-held a.0.0 b.0 x (or_bad-is BadSubst (as_list a.0.0) b.0 b.1)) tt
      d.1 in
      let m = terms_onto-held c.0 [] f.0 (list-held a.0.1 c.0 y (or_bad-is BadSubst (as_list a.0.1) c.0 c.1)) tt
      f.1 in
      subst (λ (z : TypeMap names × TermMap names). TypesNamed P has z.0 × TermsNamed P has z.1)
      (same_Ok (d.0, f.0) p f.2) (s, m)

  -- ---- what makers make
  abbrev NamedMaker : Maker → Type 0
  NamedMaker (of_none o) = O o
  NamedMaker (of_top f) = (o v : Object) → O o → f (Ok o) ≡ Ok v → O v
  NamedMaker (of_two f) = (top below v : Object) → O top → O below → f (Ok top) (Ok below) ≡ Ok v → O v
  NamedMaker no_maker = Unit {0}

  abbrev held : (o v : Object) → ◌≡◌ {A = Read} (Ok o) (Ok v) → O o → O v
  held o v e h = subst O (same_Ok o v e) h

  cons-held : NamedMaker (of_two cons_made)
  cons-held top below v h k e =
      let a = bind-ok (as_list top) _ _ e in
      let l = list-held top a.0 h a.1 in
      let m : O (list (more_objects below a.0)) = (k, l) in
      subst O (limit-ok (nat_le (nesting (list (more_objects below a.0))) depth_limit) Nesting
      (list (more_objects below a.0)) v a.2).1 m

  op_type-held : NamedMaker (of_two op_type_made)
  op_type-held top below v h k e =
      let a = bind-ok (as_list top >>= as_each as_type) _ _ e in
      let l = bind-ok (as_list top) (as_each as_type) _ a.1 in
      let b = bind-ok (as_type_op below) _ _ a.2 in
      let c = bind-ok (op_rule names b.0 (arguments a.0)) _ _ b.2 in
      let ts = each-held T as_type type-held l.0 a.0 (list-held top l.0 h l.1) l.2 in
      held (a_type c.0) v c.2
      (op-named P has b.0 (arguments a.0) c.0 (type_op-held below b.0 k b.1) (arguments-named a.0 ts) c.1)

  var-held : NamedMaker (of_two var_made)
  var-held top below v h k e =
      let a = bind-ok (as_type top) _ _ e in
      let b = bind-ok (as_name below) _ _ a.2 in
      held (variable (record { name = b.0; ty = a.0 })) v b.2 (name-held below b.0 k b.1, type-held top a.0 h a.1)

  const_term-held : NamedMaker (of_two const_term_made)
  const_term-held top below v h k e =
      let a = bind-ok (as_type top) _ _ e in
      let b = bind-ok (as_constant below) _ _ a.2 in
      held (term (Con b.0 a.0)) v b.2 (constant-held below b.0 k b.1, type-held top a.0 h a.1)

  app_term-held : NamedMaker (of_two app_term_made)
  app_term-held top below v h k e =
      let a = bind-ok (as_term top) _ _ e in
      let b = bind-ok (as_term below) _ _ a.2 in
      let c = bind-ok (app_rule names b.0 a.0) _ _ b.2 in
      held (term c.0) v c.2 (app-named P has b.0 a.0 c.0 (term-held below b.0 k b.1) (term-held top a.0 h a.1) c.1)

  abs_term-held : NamedMaker (of_two abs_term_made)
  abs_term-held top below v h k e =
      let a = bind-ok (as_term top) _ _ e in
      let b = bind-ok (as_variable below) _ _ a.2 in
      let c = bind-ok (abs_rule names b.0 a.0) _ _ b.2 in
      held (term c.0) v c.2
      (abs-named P has b.0 a.0 c.0 (variable-held below b.0 k b.1).1 (term-held top a.0 h a.1) c.1)

  one-held : (rule : Sequent Name → Result (Sequent Name) (Fault Name))
      → ((q r : Sequent Name) → S q → rule q ≡ Ok r → S r) → NamedMaker (of_top (one_theorem_made rule))
  one-held rule s o v h e =
      let a = bind-ok (as_theorem o) _ _ e in
      let b = bind-ok (rule a.0) _ _ a.2 in
      held (theorem b.0) v b.2 (s a.0 b.0 (theorem-held o a.0 h a.1) b.1)

  both-held : (rule : Sequent Name → Sequent Name → Result (Sequent Name) (Fault Name))
      → ((l u r : Sequent Name) → S l → S u → rule l u ≡ Ok r → S r) → NamedMaker (of_two (two_theorems_made rule))
  both-held rule s top below v h k e =
      let a = bind-ok (as_theorem top) _ _ e in
      let b = bind-ok (as_theorem below) _ _ a.2 in
      let c = bind-ok (rule b.0 a.0) _ _ b.2 in
      held (theorem c.0) v c.2 (s b.0 a.0 c.0 (theorem-held below b.0 k b.1) (theorem-held top a.0 h a.1) c.1)

  on_term-held : (rule : Tm Name → Result (Sequent Name) (Fault Name))
      → ((t : Tm Name) (r : Sequent Name) → M t → rule t ≡ Ok r → S r) → (o v : Object) → O o
      → (as_term o >>= λ t. rule t >>= λ q. Ok (theorem q)) ≡ Ok v → O v
  on_term-held rule s o v h e =
      let a = bind-ok (as_term o) _ _ e in
      let b = bind-ok (rule a.0) _ _ a.2 in
      held (theorem b.0) v b.2 (s a.0 b.0 (term-held o a.0 h a.1) b.1)

  abs_thm-held : NamedMaker (of_two abs_thm_made)
  abs_thm-held top below v h k e =
      let a = bind-ok (as_theorem top) _ _ e in
      let b = bind-ok (as_variable below) _ _ a.2 in
      let c = bind-ok (abs_thm_rule names b.0 a.0) _ _ b.2 in
      held (theorem c.0) v c.2
      (abs_thm-named P has b.0 a.0 c.0 (variable-held below b.0 k b.1).1 (theorem-held top a.0 h a.1) c.1)

  subst-held : NamedMaker (of_two subst_made)
  subst-held top below v h k e =
      let a = bind-ok (as_theorem top) _ _ e in
      let b = bind-ok (as_list below) _ _ a.2 in
      let c = bind-ok (maps_of b.0) _ _ b.2 in
      let d = bind-ok (subst_rule names c.0.0 c.0.1 a.0) _ _ c.2 in
      let (s, m) = maps-held b.0 c.0 (list-held below b.0 k b.1) c.1 in
      held (theorem d.0) v d.2 (subst_rule-named P has c.0.0 c.0.1 a.0 d.0 s m (theorem-held top a.0 h a.1) d.1)

  axiom-held : NamedMaker (of_two axiom_made)
  axiom-held top below v h k e =
      let a = bind-ok (as_term top) _ _ e in
      let b = bind-ok (as_list below >>= as_each as_term) _ _ a.2 in
      let l = bind-ok (as_list below) (as_each as_term) _ b.1 in
      let c = bind-ok (axiom_rule b.0 a.0) _ _ b.2 in
      let ts = each-held M as_term term-held l.0 b.0 (list-held below l.0 k l.1) l.2 in
      held (theorem c.0) v c.2 (axiom-named P has b.0 a.0 c.0 ts (term-held top a.0 h a.1) c.1)

  type_op-made : NamedMaker (of_top type_op_made)
  type_op-made o v h e = let a = bind-ok (as_name o) _ _ e in held (type_op a.0) v a.2 (name-held o a.0 h a.1)

  var_type-made : NamedMaker (of_top var_type_made)
  var_type-made o v h e = let a = bind-ok (as_name o) _ _ e in held (a_type (TyVar a.0)) v a.2 (name-held o a.0 h a.1)

  const-made : NamedMaker (of_top const_made)
  const-made o v h e = let a = bind-ok (as_name o) _ _ e in held (constant a.0) v a.2 (name-held o a.0 h a.1)

  var_term-made : NamedMaker (of_top var_term_made)
  var_term-made o v h e = let a = bind-ok (as_variable o) _ _ e in
      held (term (Free a.0)) v a.2 (variable-held o a.0 h a.1)

  maker-held : (w : Cmd) → NamedMaker (maker w)
  maker-held words.Version = tt
  maker-held words.Nil = tt
  maker-held words.Cons = cons-held
  maker-held words.HdTl = tt
  maker-held words.Def = tt
  maker-held words.Ref = tt
  maker-held words.Remove = tt
  maker-held words.Pop = tt
  maker-held words.Pragma = tt
  maker-held words.TypeOp = type_op-made
  maker-held words.OpType = op_type-held
  maker-held words.VarType = var_type-made
  maker-held words.Var = var-held
  maker-held words.VarTerm = var_term-made
  maker-held words.Const = const-made
  maker-held words.ConstTerm = const_term-held
  maker-held words.AppTerm = app_term-held
  maker-held words.AbsTerm = abs_term-held
  maker-held words.Refl = on_term-held (refl_rule names) (refl-named P has)
  maker-held words.Assume = on_term-held (assume_rule names) (assume-named P has)
  maker-held words.EqMp = both-held (eq_mp_rule names) (eq_mp-named P has)
  maker-held words.AbsThm = abs_thm-held
  maker-held words.AppThm = both-held (app_thm_rule names) (app_thm-named P has)
  maker-held words.DeductAntisym = both-held (deduct_antisym_rule names) (deduct-named P has)
  maker-held words.BetaConv = on_term-held (beta_conv_rule names) (beta-named P has)
  maker-held words.Subst = subst-held
  maker-held words.Sym = one-held (sym_rule names) (sym-named P has)
  maker-held words.Trans = both-held (trans_rule names) (trans-named P has)
  maker-held words.ProveHyp = both-held (prove_hyp_rule names) (prove_hyp-named P has)
  maker-held words.Axiom = axiom-held
  maker-held words.Thm = tt
  maker-held words.DefineConst = tt
  maker-held words.DefineConstList = tt
  maker-held words.DefineTypeOp = tt

  -- ---- what definitions make
  abbrev pub DefNamed : Definition Name → Type 0
  DefNamed d = AllByRecursion S (theorems names d)

  limited-held : (d e : Definition Name) → limited_definition names d ≡ Ok e → DefNamed d → DefNamed e
  limited-held d e p h = let a = bind-ok (unless Nesting (list_all (is_shallow_sequent names) (theorems names d))) _ _
      p in subst DefNamed (same_Ok d e a.2) h

  constants-held : (ns : List Name) (vs : List (Variable Name)) → AllByRecursion P ns → AllByRecursion V vs
      → TermsNamed P has (constants_for names (zipped names ns vs))
  constants-held [] vs h k = tt
  constants-held (n ∷ ns) [] h k = tt
  constants-held (n ∷ ns) (v ∷ vs) h k = ((h.0, k.0.1), constants-held ns vs h.1 k.1)

  pairs-held : (ps : List (Name × Variable Name)) → AllByRecursion (λ (p : Name × Variable Name). P p.0 × V p.1) ps
      → AllByRecursion P (map (λ p. p.0) ps) × AllByRecursion V (map (λ p. p.1) ps)
  pairs-held [] h = (tt, tt)
  pairs-held (p ∷ ps) h = let (a, b) = pairs-held ps h.1 in ((h.0.0, a), (h.0.1, b))

  type_vars-held : (vs : List Name) → AllByRecursion P vs → TysNamed P (tys_of_vars names vs)
  type_vars-held [] h = tt
  type_vars-held (v ∷ vs) h = (h.0, type_vars-held vs h.1)

  type_theorems-held : (n abs rep : Name) (vs : List Name) (t : Tm Name) → P n → P abs → P rep → AllByRecursion P vs
      → M t → AllByRecursion S (theorems_at names n abs rep vs t)
  type_theorems-held n abs rep vs (App p t) hn ha hr hv h =
      let ty = TyOp n (tys_of_vars names vs) in
      let u = type_of names t in
      let new : T ty = (hn, type_vars-held vs hv) in
      let old : T u = type_of-named P has t h.1 in
      let to : M (Con abs (fun_ty names u ty)) = (ha, fun-named P has u ty old new) in
      let from : M (Con rep (fun_ty names ty u)) = (hr, fun-named P has ty u new old) in
      let c = Con abs (fun_ty names u ty) in
      let r = Con rep (fun_ty names ty u) in
      let test : M (equation names u (App r (App c (Bound 0))) (Bound 0)) =
      eq-named P has u (App r (App c (Bound 0))) (Bound 0) old (from, (to, tt)) tt in (
        (
          tt,
          eq-named P has (fun_ty names ty ty) (Abs ty (App c (App r (Bound 0)))) (Abs ty (Bound 0))
              (fun-named P has ty ty new new) (new, (to, (from, tt))) (new, tt),
        ),
        (
          (
            tt,
            eq-named P has (fun_ty names u (bool_ty names))
                (Abs u (equation names u (App r (App c (Bound 0))) (Bound 0))) (Abs u (App p (Bound 0)))
                (fun-named P has u (bool_ty names) old (bool-named P has)) (old, test) (old, (h.0, tt)),
          ),
          tt,
        ),
      )
  type_theorems-held n abs rep vs (Free v) hn ha hr hv h = tt
  type_theorems-held n abs rep vs (Con m t) hn ha hr hv h = tt
  type_theorems-held n abs rep vs (Bound k) hn ha hr hv h = tt
  type_theorems-held n abs rep vs (Abs t c) hn ha hr hv h = tt

  get-held : {A : Type 0} (Q : A → Type 0) (xs : List A) (i : ℕ) (x : A) → AllByRecursion Q xs
      → slice_get xs i ≡ Some x → Q x
  get-held Q [] i x h e = absurd (cc)
  get-held Q (y ∷ xs) zero x h e = subst Q (same_Some y x e) h.0
  get-held Q (y ∷ xs) (suc i) x h e = get-held Q xs i x h.1 e

  abbrev Vs : List Object → Type 0
  Vs = AllByRecursion O

  at-held : (n : ℕ) (vs : List Object) (o : Object) → Vs vs → value_at n vs ≡ Ok o → O o
  at-held n vs o h e = go (nat_lt n (length vs)) e
    where
      go : (c : Bool) → ◌≡◌ {A = Read}
          (if c then some_or StackEmpty (slice_get vs (length vs - suc n)) else Err StackEmpty) (Ok o) → O o
      go true p = get-held O vs (length vs - suc n) o h (some_or-ok StackEmpty (slice_get vs (length vs - suc n)) o p)
      go false p = absurd (cc)

  const-held : (vs : List Object) (d : Definition Name) → Vs vs → const_defined [] (λ n. value_at n vs) ≡ Ok d
      → DefNamed d
  const-held vs d h e =
      let a = bind-ok (value_at 0 vs >>= as_term) _ _ e in
      let x = bind-ok (value_at 0 vs) as_term _ a.1 in
      let b = bind-ok (value_at 1 vs >>= as_name) _ _ a.2 in
      let y = bind-ok (value_at 1 vs) as_name _ b.1 in
      let c = bind-ok (checked_const names [] [] b.0 a.0) _ _ b.2 in
      let t = term-held x.0 a.0 (at-held 0 vs x.0 h x.1) x.2 in
      let n = name-held y.0 b.0 (at-held 1 vs y.0 h y.1) y.2 in
      let ty = type_of names a.0 in
      limited-held (ConDef b.0 a.0) d c.2
      ((tt, eq-named P has ty (Con b.0 ty) a.0 (type_of-named P has a.0 t) (n, type_of-named P has a.0 t) t), tt)

  list_definition-held : (vs : List Object) (d : Definition Name) → Vs vs → list_defined [] (λ n. value_at n vs)
      ≡ Ok d → DefNamed d
  list_definition-held vs d h e =
      let a = bind-ok (value_at 0 vs >>= as_theorem) _ _ e in
      let x = bind-ok (value_at 0 vs) as_theorem _ a.1 in
      let b = bind-ok (value_at 1 vs >>= as_list) _ _ a.2 in
      let y = bind-ok (value_at 1 vs) as_list _ b.1 in
      let c = bind-ok (pairs_of b.0) _ _ b.2 in
      let ns = map (λ p. p.0) c.0 in
      let ws = map (λ p. p.1) c.0 in
      let g = bind-ok (checked_list names [] [] ns ws a.0) _ _ c.2 in
      let q = theorem-held x.0 a.0 (at-held 0 vs x.0 h x.1) x.2 in
      let ps = each-held (λ (p : Name × Variable Name). P p.0 × V p.1) definition_pair definition_pair-held b.0 c.0
      (list-held y.0 b.0 (at-held 1 vs y.0 h y.1) y.2) c.1 in
      let (l, r) = pairs-held c.0 ps in
      subst DefNamed (same_Ok (ListDef (zipped names ns ws) a.0) d g.2) (
        (
          tt,
          subst-named P has [] (constants_for names (zipped names ns ws)) tt (constants-held ns ws l r)
              a.0.concl q.1,
        ),
        tt,
      )

  type_definition-held : (vs : List Object) (d : Definition Name) → Vs vs → type_defined [] (λ n. value_at n vs)
      ≡ Ok d → DefNamed d
  type_definition-held vs d h e =
      let a = bind-ok (value_at 0 vs >>= as_theorem) _ _ e in
      let x = bind-ok (value_at 0 vs) as_theorem _ a.1 in
      let b = bind-ok (value_at 1 vs >>= as_list >>= as_each as_name) _ _ a.2 in
      let y = bind-ok (value_at 1 vs >>= as_list) (as_each as_name) _ b.1 in
      let z = bind-ok (value_at 1 vs) as_list _ y.1 in
      let c = bind-ok (value_at 2 vs >>= as_name) _ _ b.2 in
      let c' = bind-ok (value_at 2 vs) as_name _ c.1 in
      let f = bind-ok (value_at 3 vs >>= as_name) _ _ c.2 in
      let f' = bind-ok (value_at 3 vs) as_name _ f.1 in
      let g = bind-ok (value_at 4 vs >>= as_name) _ _ f.2 in
      let g' = bind-ok (value_at 4 vs) as_name _ g.1 in
      let k = bind-ok (checked_type names [] [] g.0 f.0 c.0 b.0 a.0) _ _ g.2 in
      let q = theorem-held x.0 a.0 (at-held 0 vs x.0 h x.1) x.2 in
      let ns = each-held P as_name name-held y.0 b.0 (list-held z.0 y.0 (at-held 1 vs z.0 h z.1) z.2) y.2 in
      let rep = name-held c'.0 c.0 (at-held 2 vs c'.0 h c'.1) c'.2 in
      let abs = name-held f'.0 f.0 (at-held 3 vs f'.0 h f'.1) f'.2 in
      let n = name-held g'.0 g.0 (at-held 4 vs g'.0 h g'.1) g'.2 in
      limited-held (TyDef g.0 f.0 c.0 b.0 a.0) d k.2 (type_theorems-held g.0 f.0 c.0 b.0 a.0.concl n abs rep ns q.1)

  defined_by-held : (w : Cmd) (vs : List Object) (d : Definition Name) → Vs vs → defined_by w [] (λ n. value_at n vs)
      ≡ Ok d → DefNamed d
  defined_by-held words.Version vs d h e = absurd (cc)
  defined_by-held words.Nil vs d h e = absurd (cc)
  defined_by-held words.Cons vs d h e = absurd (cc)
  defined_by-held words.HdTl vs d h e = absurd (cc)
  defined_by-held words.Def vs d h e = absurd (cc)
  defined_by-held words.Ref vs d h e = absurd (cc)
  defined_by-held words.Remove vs d h e = absurd (cc)
  defined_by-held words.Pop vs d h e = absurd (cc)
  defined_by-held words.Pragma vs d h e = absurd (cc)
  defined_by-held words.TypeOp vs d h e = absurd (cc)
  defined_by-held words.OpType vs d h e = absurd (cc)
  defined_by-held words.VarType vs d h e = absurd (cc)
  defined_by-held words.Var vs d h e = absurd (cc)
  defined_by-held words.VarTerm vs d h e = absurd (cc)
  defined_by-held words.Const vs d h e = absurd (cc)
  defined_by-held words.ConstTerm vs d h e = absurd (cc)
  defined_by-held words.AppTerm vs d h e = absurd (cc)
  defined_by-held words.AbsTerm vs d h e = absurd (cc)
  defined_by-held words.Refl vs d h e = absurd (cc)
  defined_by-held words.Assume vs d h e = absurd (cc)
  defined_by-held words.EqMp vs d h e = absurd (cc)
  defined_by-held words.AbsThm vs d h e = absurd (cc)
  defined_by-held words.AppThm vs d h e = absurd (cc)
  defined_by-held words.DeductAntisym vs d h e = absurd (cc)
  defined_by-held words.BetaConv vs d h e = absurd (cc)
  defined_by-held words.Subst vs d h e = absurd (cc)
  defined_by-held words.Sym vs d h e = absurd (cc)
  defined_by-held words.Trans vs d h e = absurd (cc)
  defined_by-held words.ProveHyp vs d h e = absurd (cc)
  defined_by-held words.Axiom vs d h e = absurd (cc)
  defined_by-held words.Thm vs d h e = absurd (cc)
  defined_by-held words.DefineConst vs d h e = const-held vs d h e
  defined_by-held words.DefineConstList vs d h e = list_definition-held vs d h e
  defined_by-held words.DefineTypeOp vs d h e = type_definition-held vs d h e

  -- exactly as many operands as the maker takes
  applied-held : (m : Maker) → NamedMaker m → (vs : List Object) (v : Object) → Vs vs → applied m vs ≡ Ok v → O v
  applied-held (of_none o) s vs v h e = let a = bind-ok (unless StackEmpty (length vs == 0)) _ _ e in held o v a.2 s
  applied-held (of_top f) s [] v h e = absurd (cc)
  applied-held (of_top f) s (x ∷ []) v h e = s x v h.0 e
  applied-held (of_top f) s (x ∷ y ∷ vs) v h e =
      let a = bind-ok (unless StackEmpty (length (x ∷ y ∷ vs) == 1)) _ _ e in
      absurd (let n = eqb-true (length (x ∷ y ∷ vs)) 1 (unless-ok StackEmpty (length (x ∷ y ∷ vs) == 1) a.0 a.1) in
      omega (arith, n))
  applied-held (of_two f) s [] v h e = absurd (cc)
  applied-held (of_two f) s (x ∷ []) v h e = absurd (cc)
  applied-held (of_two f) s (x ∷ y ∷ []) v h e = s y x v h.1.0 h.0 e
  applied-held (of_two f) s (x ∷ y ∷ z ∷ vs) v h e =
      let a = bind-ok (unless StackEmpty (length (x ∷ y ∷ z ∷ vs) == 2)) _ _ e in
      absurd (let n = eqb-true (length (x ∷ y ∷ z ∷ vs)) 2
      (unless-ok StackEmpty (length (x ∷ y ∷ z ∷ vs) == 2) a.0 a.1) in omega (arith, n))
  applied-held no_maker s vs v h e = let a = bind-ok (unless StackEmpty (length vs == 0)) _ _ e in absurd (cc)

  theorem_of-held : (j : ℕ) (d : Definition Name) (v : Object) → DefNamed d → theorem_of j d ≡ Ok v → O v
  theorem_of-held zero d v h e = absurd (cc)
  theorem_of-held (suc j) d v h e =
      let a = bind-ok (some_or StackEmpty (slice_get (theorems names d) j)) _ _ e in
      held (theorem a.0) v a.2
      (get-held S (theorems names d) j a.0 h (some_or-ok StackEmpty (slice_get (theorems names d) j) a.0 a.1))

module _ (b : Basis) (has : HasPrimitives b.IsNamed) where
  mutual
    -- each name of a value may be used where the origin rests on the basis
    pub value-named : (o : Origin Name) (v : Object) → RestsOn b o → value o ≡ Ok v → ObjectNamed b.IsNamed v
    value-named (Number k) v h e = held b.IsNamed has (number k) v e tt
    value-named (Named n) v h e = held b.IsNamed has (name n) v e h
    value-named (Make w os) v h e =
        let a = bind-ok (values os) (applied (maker w)) v e in
        applied-held b.IsNamed has (maker w) (maker-held b.IsNamed has w) a.0 v (values-named os a.0 h.0 a.1) a.2
    value-named (Define w os) v h e = absurd (cc)
    value-named (Outcome j d) v h e =
        let a = bind-ok (definition_of [] d) (theorem_of j) v e in
        theorem_of-held b.IsNamed has j a.0 v (definition-named d a.0 h.1 a.1) a.2

    values-named : (os : Origins Name) (vs : List Object) → AreOn b os → values os ≡ Ok vs
        → AllByRecursion (ObjectNamed b.IsNamed) vs
    values-named NoOrigins vs h e = subst (AllByRecursion (ObjectNamed b.IsNamed)) (same_Ok [] vs e) tt
    values-named (MoreOrigins o os) vs h e =
        let a = bind-ok (value o) _ _ e in
        let c = bind-ok (values os) _ _ a.2 in
        subst (AllByRecursion (ObjectNamed b.IsNamed)) (same_Ok (a.0 ∷ c.0) vs c.2)
        (value-named o a.0 h.0 a.1, values-named os c.0 h.1 c.1)

    definition-named : (o : Origin Name) (d : Definition Name) → RestsOn b o → definition_of [] o ≡ Ok d
        → DefNamed b.IsNamed has d
    definition-named (Number k) d h e = absurd (cc)
    definition-named (Named n) d h e = absurd (cc)
    definition-named (Make w os) d h e = absurd (cc)
    definition-named (Define w os) d h e =
        let a = bind-ok (values os) (defines w []) d e in
        let c = bind-ok (unless StackEmpty (length a.0 == definition_arity w)) _ _ a.2 in
        defined_by-held b.IsNamed has w a.0 d (values-named os a.0 h a.1) c.2
    definition-named (Outcome j o) d h e = absurd (cc)
