-- What the numbers of a kernel stand for, and what its calls answer about new ones.
use Rattle.std.specs.Prelude.{◌≢◌, Result, Ok, Err, IfOk}
use Rattle.std.specs.List.{All}
use Rattle.std.proofs.Common.{◌≡◌, ℕ, ◌<◌, false, List, [], ◌∷◌, length}
use Rattle.std.proofs.Common.{slice_get, Some, refl, sym, ap, ◌∙◌, subst, arith}
use Rattle.std.proofs.lemmas.List.Elements.{All-head, All-tail}
use Rattle.std.proofs.lemmas.Option.{slice_get_within, get_or_from_slice_get}
use Rattle.std.proofs.lemmas.List.{length-map}
use Rattle.ot_logic.specs.Names.{Name}
use Rattle.ot_logic.specs.Trees.{Alphabet, Ty, Tys, TyVar, TyOp, NoTys, MoreTys}
use Rattle.ot_logic.specs.Trees.{Variable, Free, Con, Named, NVar, NConst, NApp, NAbs}
use Rattle.ot_logic.specs.Hol.{fun_ty, bool_ty, depth_ty, depth_limit}
use Rattle.ot_logic.specs.NamedTerms.{nameless, named_type}
use Rattle.ot_logic.specs.Renamed.{map_ty, map_tys, map_variable, map_named}
use Rattle.ot_logic.specs.Naming.{names, numbers, name_of}
use Rattle.ot_logic.specs.Faults.{NotFunction, ArgumentType, Nesting}
use Rattle.ot_logic.specs.Rules.{op_rule, app_rule, abs_rule}
use Rattle.ot_logic.proofs.Line.{IsLettering}
use Rattle.ot_logic.proofs.Naming.{naming, lettering}
use Rattle.ot_laws.proofs.Tests.{tells_numbers}
use Rattle.ot_type.specs.TypeTable as types
use Rattle.ot_type.specs.declared.fault.TableFault.{TableFault}
use Rattle.ot_type.specs.declared.fault.TableFault.TheVariants as of_types
use Rattle.ot_term.specs.declared.term.TermFault.{TermFault}
use Rattle.ot_term.specs.declared.term.TermFault.TheVariants as of_terms
use Rattle.ot_term.specs.Term.{TermTable}
use Rattle.ot_term.specs.TermTable as terms
use Rattle.ot_term.specs.declared.term.VarKey.{VarKey}
use Rattle.ot_kernel.specs.State.{State, name_at, type_at, types_at, variable_at, named_at, term_at}
use Rattle.ot_kernel.specs.Spelled.{Held, state_of, IsKernel}
use Rattle.ot_kernel.specs.Answers.{table_fault, term_fault, MakesType, MakesTerm, MakesAbstraction}
use Rattle.ot_kernel.proofs.Carried.{carry-op, carry-terms, carry-binder}
use Rattle.ot_kernel.proofs.TermRules.{op-made, op-nesting, app-made, app-not_function}
use Rattle.ot_kernel.proofs.TermRules.{app-argument_type, app-nesting, abs-made, abs-nesting}
use Rattle.ot_kernel.proofs.Refusals.{refuses}
use Rattle.ot_kernel.proofs.Namings.{slice_get-map, index-map, table_names, name_of-index}

-- ---- a new number
module _ (ns : List Name) (u : TermTable) (held : Held) where
  pub new_type : (id : ℕ) (x : Ty ℕ) → slice_get u.types id ≡ Some x → slice_get (state_of ns u held).types id
      ≡ Some (map_ty (name_of ns) x)
  new_type id x p = slice_get-map (map_ty (name_of ns)) u.types id x p

  pub new_term : (id : ℕ) (x : Named ℕ) → slice_get u.terms id ≡ Some x → (id < length (state_of ns u held).terms)
      × (named_at (state_of ns u held).terms id ≡ map_named (name_of ns) x)
  new_term id x p =
      let q = slice_get-map (map_named (name_of ns)) u.terms id x p in
      (slice_get_within _ id _ q, get_or_from_slice_get _ id _ (NConst [] (TyVar [])) q)

-- ---- the numbers that a call takes
module _ (ns : List Name) (t : TermTable) (held : Held) (now : State) (view : state_of ns t held ≡ now)
    (k : IsKernel ns t held) where
  pub real_name : (i : ℕ) → i < length now.names → name_of ns i ≡ name_at now i
  real_name i h =
      let e = ap (λ (s : State). length s.names) view in
      name_of-index ns k.names i (omega (arith, e)) ∙ ap (λ s. name_at s i) view

  pub real_type : (i : ℕ) → i < length now.types → map_ty (name_of ns) (types.type_at t.types i) ≡ type_at now i
  real_type i h =
      let e = ap (λ (s : State). length s.types) view in
      sym (index-map (map_ty (name_of ns)) t.types i (TyVar 0) (TyVar [])
      (omega (arith, e, length-map t.types (map_ty (name_of ns))))) ∙ ap (λ s. type_at s i) view

  pub real_types : (is : List ℕ) → All (λ i. i < length now.types) is
      → map_tys (name_of ns) (types.types_at t.types is) ≡ types_at now is
  real_types [] h = refl
  real_types (i ∷ is) h =
      let a = real_type i (All-head (λ i. i < length now.types) i is h) in
      let b = real_types is (All-tail (λ i. i < length now.types) i is h) in
      λ j. MoreTys (a j) (b j)

  pub real_variable : (v : VarKey) → v.name < length now.names → v.ty < length now.types
      → map_variable (name_of ns) (terms.variable_of t.types v) ≡ variable_at now v
  real_variable v h g = let a = real_name v.name h in let b = real_type v.ty g in λ i. record { name = a i; ty = b i }

  pub real_term : (i : ℕ) → i < length now.terms → map_named (name_of ns) (terms.term_at t.terms i)
      ≡ named_at now.terms i
  real_term i h =
      let e = ap (λ (s : State). length s.terms) view in
      sym (index-map (map_named (name_of ns)) t.terms i (NConst 0 (TyVar 0)) (NConst [] (TyVar []))
      (omega (arith, e, length-map t.terms (map_named (name_of ns)))))
      ∙ ap (λ (s : State). named_at s.terms i) view

  -- ---- calls that only running out of memory refuses
  pub type_var-ok : {E : Type 0} (u : TermTable) (r : Result ℕ E) (n : ℕ) → n < length now.names
      → IfOk r (λ id. slice_get u.types id ≡ Some (TyVar n))
      → IfOk r (λ id. slice_get (state_of ns u held).types id ≡ Some (TyVar (name_at now n)))
  type_var-ok u (Ok id) n h p = new_type ns u held id (TyVar n) p ∙ ap (λ m. Some (TyVar m)) (real_name n h)
  type_var-ok u (Err e) n h p = p

  pub var-ok : {E : Type 0} (u : TermTable) (r : Result ℕ E) (v : VarKey) → v.name < length now.names
      → v.ty < length now.types → IfOk r (λ id. slice_get u.terms id ≡ Some (NVar (terms.variable_of t.types v)))
      → IfOk r (λ id. term_at (state_of ns u held) id ≡ Free (variable_at now v))
  var-ok u (Ok id) v h g p = ap (nameless names) ((new_term ns u held id (NVar (terms.variable_of t.types v)) p).1)
      ∙ ap Free (real_variable v h g)
  var-ok u (Err e) v h g p = p

  pub constant-ok : {E : Type 0} (u : TermTable) (r : Result ℕ E) (n ty : ℕ) → n < length now.names
      → ty < length now.types → IfOk r (λ id. slice_get u.terms id ≡ Some (NConst n (types.type_at t.types ty)))
      → IfOk r (λ id. term_at (state_of ns u held) id ≡ Con (name_at now n) (type_at now ty))
  constant-ok u (Ok id) n ty h g p =
      let a = real_name n h in
      let b = real_type ty g in
      ap (nameless names) ((new_term ns u held id (NConst n (types.type_at t.types ty)) p).1) ∙ (λ i. Con (a i) (b i))
  constant-ok u (Err e) n ty h g p = p

  -- the named trees of applications and abstractions
  pub app-named : {E : Type 0} (u : TermTable) (r : Result ℕ E) (f x : ℕ) → f < length now.terms
      → x < length now.terms
      → IfOk r (λ id. slice_get u.terms id ≡ Some (NApp (terms.term_at t.terms f) (terms.term_at t.terms x)))
      → IfOk r (λ id. slice_get (state_of ns u held).terms id
      ≡ Some (NApp (named_at now.terms f) (named_at now.terms x)))
  app-named u (Ok id) f x h g p =
      let a = real_term f h in
      let b = real_term x g in
      slice_get-map (map_named (name_of ns)) u.terms id (NApp (terms.term_at t.terms f) (terms.term_at t.terms x)) p
      ∙ (λ i. Some (NApp (a i) (b i)))
  app-named u (Err e) f x h g p = p

  pub abs-named : {E : Type 0} (u : TermTable) (r : Result ℕ E) (v : VarKey) (b : ℕ) → v.name < length now.names
      → v.ty < length now.types → b < length now.terms
      → IfOk r (λ id. slice_get u.terms id ≡ Some (NAbs (terms.variable_of t.types v) (terms.term_at t.terms b)))
      → IfOk r (λ id. slice_get (state_of ns u held).terms id
      ≡ Some (NAbs (variable_at now v) (named_at now.terms b)))
  abs-named u (Ok id) v b h g l p =
      let a = real_variable v h g in
      let d = real_term b l in
      slice_get-map (map_named (name_of ns)) u.terms id (NAbs (terms.variable_of t.types v) (terms.term_at t.terms b))
      p ∙ (λ i. Some (NAbs (a i) (d i)))
  abs-named u (Err e) v b h g l p = p

  -- a new number of a term is of the table
  pub within-ok : {E : Type 0} (u : TermTable) (r : Result ℕ E) (x : Named ℕ)
      → IfOk r (λ id. slice_get u.terms id ≡ Some x) → IfOk r (λ id. id < length (state_of ns u held).terms)
  within-ok u (Ok id) x p = (new_term ns u held id x p).0
  within-ok u (Err e) x p = p

  -- ---- calls that a rule may refuse
  abbrev letters : IsLettering (name_of ns) numbers names
  letters = lettering ns (table_names ns k.names)

  pub boolean-ok : {E : Type 0} (u : TermTable) (r : Result ℕ E)
      → IfOk r (λ id. slice_get u.types id ≡ Some (bool_ty numbers))
      → IfOk r (λ id. type_at (state_of ns u held) id ≡ bool_ty names)
  boolean-ok u (Ok id) p = get_or_from_slice_get _ id _ (TyVar []) (new_type ns u held id (bool_ty numbers) p)
      ∙ ap (λ n. TyOp n NoTys) letters.bool_name
  boolean-ok u (Err e) p = p

  pub boolean-within : {E : Type 0} (u : TermTable) (r : Result ℕ E)
      → IfOk r (λ id. slice_get u.types id ≡ Some (bool_ty numbers))
      → IfOk r (λ id. id < length (state_of ns u held).types)
  boolean-within u (Ok id) p = slice_get_within _ id _ (new_type ns u held id (bool_ty numbers) p)
  boolean-within u (Err e) p = p

  -- what holds of trees over numbers holds of what the numbers stand for
  real_op : (P : (L : Type 0) → Alphabet L → L → Tys L → Type 0) → (n : ℕ) (is : List ℕ) → n < length now.names
      → All (λ i. i < length now.types) is → P ℕ numbers n (types.types_at t.types is)
      → P Name names (name_at now n) (types_at now is)
  real_op P n is h g p =
      let a = real_name n h in
      let b = real_types is g in
      subst (λ (z : Name × Tys Name). P Name names z.0 z.1) (λ i. (a i, b i))
      (carry-op (naming ns) numbers names letters P n (types.types_at t.types is) p)

  real_terms : (P : (L : Type 0) → Alphabet L → Named L → Named L → Type 0) → (f x : ℕ) → f < length now.terms
      → x < length now.terms → P ℕ numbers (terms.term_at t.terms f) (terms.term_at t.terms x)
      → P Name names (named_at now.terms f) (named_at now.terms x)
  real_terms P f x h g p =
      let a = real_term f h in
      let b = real_term x g in
      subst (λ (z : Named Name × Named Name). P Name names z.0 z.1) (λ i. (a i, b i))
      (carry-terms (naming ns) numbers names letters P (terms.term_at t.terms f) (terms.term_at t.terms x) p)

  real_binder : (P : (L : Type 0) → Alphabet L → Variable L → Named L → Type 0) → (v : VarKey) (b : ℕ)
      → v.name < length now.names → v.ty < length now.types → b < length now.terms
      → P ℕ numbers (terms.variable_of t.types v) (terms.term_at t.terms b)
      → P Name names (variable_at now v) (named_at now.terms b)
  real_binder P v b h g l p =
      let a = real_variable v h g in
      let d = real_term b l in
      subst (λ (z : Variable Name × Named Name). P Name names z.0 z.1) (λ i. (a i, d i))
      (carry-binder (naming ns) numbers names letters P (terms.variable_of t.types v) (terms.term_at t.terms b) p)

  pub makes_op : (u : TermTable) (r : Result ℕ TableFault) (n : ℕ) (is : List ℕ) → n < length now.names
      → All (λ i. i < length now.types) is
      → IfOk r (λ id. slice_get u.types id ≡ Some (TyOp n (types.types_at t.types is)))
      → (r ≡ Err of_types.Nesting → depth_limit < depth_ty numbers (TyOp n (types.types_at t.types is)))
      → terms.IsTermTable u
      → MakesType r (op_rule names (name_at now n) (types_at now is)) (state_of ns u held)
  makes_op u (Ok id) n is h g ok nesting table =
      let tree = TyOp n (types.types_at t.types is) in
      let a = real_name n h in
      let b = real_types is g in
      let new = new_type ns u held id tree ok in
      let at : type_at (state_of ns u held) id ≡ TyOp (name_at now n) (types_at now is) =
      get_or_from_slice_get _ id _ (TyVar []) new ∙ (λ i. TyOp (a i) (b i)) in (
        slice_get_within _ id _ new,
        real_op (λ L c m ts. op_rule c m ts ≡ Ok (TyOp m ts)) n is h g
            (op-made numbers n (types.types_at t.types is) (table.types.shallow id tree ok)) ∙ ap Ok (sym at),
      )
  makes_op u (Err of_types.Nesting) n is h g ok nesting table =
      refuses table_fault of_types.Nesting Nesting _ refl (real_op (λ L c m ts. op_rule c m ts ≡ Err Nesting) n is h g
      (op-nesting numbers n (types.types_at t.types is) (nesting refl)))
  makes_op u (Err (of_types.Memory memory)) n is h g ok nesting table = λ f p. cc

  pub makes_app : (u : TermTable) (r : Result ℕ TermFault) (f x : ℕ) → f < length now.terms → x < length now.terms
      → IfOk r (λ id. slice_get u.terms id ≡ Some (NApp (terms.term_at t.terms f) (terms.term_at t.terms x)))
      → (r ≡ Err of_terms.NotFunction → (a b : Ty ℕ)
      → named_type numbers (terms.term_at t.terms f) ≢ Some (fun_ty numbers a b))
      → (r ≡ Err of_terms.ArgumentType
      → (a b : Ty ℕ) × (named_type numbers (terms.term_at t.terms f) ≡ Some (fun_ty numbers a b))
      × (named_type numbers (terms.term_at t.terms x) ≢ Some a))
      → (r ≡ Err of_terms.Nesting
      → (b : Ty ℕ) × (named_type numbers (NApp (terms.term_at t.terms f) (terms.term_at t.terms x)) ≡ Some b)
      × (terms.is_within_limit (NApp (terms.term_at t.terms f) (terms.term_at t.terms x)) ≡ false))
      → terms.IsTermTable u → MakesTerm r (app_rule names (term_at now f) (term_at now x)) (state_of ns u held)
  makes_app u (Ok id) f x h g ok not_function argument nesting table =
      let tree = NApp (terms.term_at t.terms f) (terms.term_at t.terms x) in
      let a = real_term f h in
      let b = real_term x g in
      let new = new_term ns u held id tree ok in
      let typed = table.typed id tree ok in
      let at : named_at (state_of ns u held).terms id ≡ NApp (named_at now.terms f) (named_at now.terms x) =
      new.1 ∙ (λ i. NApp (a i) (b i)) in (
        new.0,
        real_terms (λ L c y z. app_rule c (nameless c y) (nameless c z) ≡ Ok (nameless c (NApp y z))) f x h g
            (app-made numbers tells_numbers (terms.term_at t.terms f) (terms.term_at t.terms x) typed.0 typed.1
            (table.limit id tree ok)) ∙ ap (λ z. Ok (nameless names z)) (sym at),
      )
  makes_app u (Err of_terms.NotFunction) f x h g ok not_function argument nesting table =
      refuses term_fault of_terms.NotFunction NotFunction _ refl
      (real_terms (λ L c y z. app_rule c (nameless c y) (nameless c z) ≡ Err NotFunction) f x h g
      (app-not_function numbers tells_numbers (terms.term_at t.terms f) (terms.term_at t.terms x)
      (not_function refl)))
  makes_app u (Err of_terms.ArgumentType) f x h g ok not_function argument nesting table =
      let (a, b, p, q) = argument refl in
      refuses term_fault of_terms.ArgumentType ArgumentType _ refl
      (real_terms (λ L c y z. app_rule c (nameless c y) (nameless c z) ≡ Err ArgumentType) f x h g
      (app-argument_type numbers tells_numbers (terms.term_at t.terms f) (terms.term_at t.terms x) a b p q))
  makes_app u (Err of_terms.Nesting) f x h g ok not_function argument nesting table =
      let (b, p, q) = nesting refl in
      refuses term_fault of_terms.Nesting Nesting _ refl
      (real_terms (λ L c y z. app_rule c (nameless c y) (nameless c z) ≡ Err Nesting) f x h g
      (app-nesting numbers tells_numbers (terms.term_at t.terms f) (terms.term_at t.terms x) b p q))
  makes_app u (Err (of_terms.Memory memory)) f x h g ok not_function argument nesting table = λ f p. cc

  pub makes_abs : (u : TermTable) (r : Result ℕ TableFault) (v : VarKey) (b : ℕ) → v.name < length now.names
      → v.ty < length now.types → b < length now.terms
      → IfOk r (λ id. slice_get u.terms id ≡ Some (NAbs (terms.variable_of t.types v) (terms.term_at t.terms b)))
      → (r ≡ Err of_types.Nesting → terms.is_within_limit
      (NAbs (terms.variable_of t.types v) (terms.term_at t.terms b)) ≡ false) → terms.IsTermTable u
      → MakesAbstraction r (abs_rule names (variable_at now v) (term_at now b)) (state_of ns u held)
  makes_abs u (Ok id) v b h g l ok nesting table =
      let tree = NAbs (terms.variable_of t.types v) (terms.term_at t.terms b) in
      let a = real_variable v h g in
      let d = real_term b l in
      let new = new_term ns u held id tree ok in
      let at : named_at (state_of ns u held).terms id ≡ NAbs (variable_at now v) (named_at now.terms b) =
      new.1 ∙ (λ i. NAbs (a i) (d i)) in (
        new.0,
        real_binder (λ L c w y. abs_rule c w (nameless c y) ≡ Ok (nameless c (NAbs w y))) v b h g l
            (abs-made numbers tells_numbers (terms.variable_of t.types v) (terms.term_at t.terms b)
            (table.limit id tree ok)) ∙ ap (λ z. Ok (nameless names z)) (sym at),
      )
  makes_abs u (Err of_types.Nesting) v b h g l ok nesting table =
      refuses table_fault of_types.Nesting Nesting _ refl
      (real_binder (λ L c w y. abs_rule c w (nameless c y) ≡ Err Nesting) v b h g l
      (abs-nesting numbers tells_numbers (terms.variable_of t.types v) (terms.term_at t.terms b) (nesting refl)))
  makes_abs u (Err (of_types.Memory memory)) v b h g l ok nesting table = λ f p. cc

-- ---- a number that was there before terms grew
