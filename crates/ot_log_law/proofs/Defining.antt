-- What a word defines: the values of its operands, and the conditions.
use Rattle.std.specs.Prelude.{slice_get, cond, max}
use Rattle.std.specs.Option.{option_map}
use Rattle.std.specs.List.{AllByRecursion, list_all}
use Rattle.std.proofs.Common.{◌≡◌, ℕ, suc, ◌≤◌, true, List, [], ◌∷◌, map}
use Rattle.std.proofs.Common.{Some, Ok, refl, sym, ap, subst, ◌∙◌, inl, inr}
use Rattle.std.proofs.lemmas.Bool.{and_parts}
use Rattle.ot_logic.specs.Lists.{AreDistinct}
use Rattle.ot_logic.specs.Names.{Name}
use Rattle.ot_logic.specs.Naming.{names}
use Rattle.ot_logic.specs.Trees.{Ty, TyVar, Variable, Tm, Free, Con, Bound, App}
use Rattle.ot_logic.specs.Trees.{Abs, Sequent, Definition, ConDef, ListDef, TyDef}
use Rattle.ot_logic.specs.Hol.{depth_limit, depth_tm, inst_by, fun_ty, applied, type_in, bool_ty, term_at, subst_tm}
use Rattle.ot_logic.specs.Hol.{constants_for, IsTyped, theorems, is_shallow_sequent, IsSequent, sequent_of}
use Rattle.ot_logic.specs.Faults.{Nesting}
use Rattle.ot_logic.specs.Answers.{◌>>=◌, unless}
use Rattle.ot_logic.specs.declared.command.Cmd.{Cmd}
use Rattle.ot_logic.specs.declared.command.Cmd.TheVariants as words
use Rattle.ot_laws.specs.Conditions.{checked_const, checked_list, checked_type}
use Rattle.ot_laws.specs.Next.{AreSymbolsOf}
use Rattle.ot_laws.proofs.Tests.{tells_names, var_cases}
use Rattle.ot_laws.proofs.Terms.{inst_by-id}
use Rattle.ot_laws.proofs.Typed.{subst-typed}
use Rattle.ot_laws.proofs.Theorems.{assumption-theorem}
use Rattle.ot_laws.proofs.Definitions.{definition-sequents, no_hyps-theorems}
use Rattle.ot_laws.proofs.Next.{constants_are_next, types_are_next}
use Rattle.ot_kernel.specs.Defining.{all_defined, all_used, zipped, limited_definition}
use Rattle.ot_machine.specs.Objects.{Object, Objects, name, list, term, theorem}
use Rattle.ot_machine.specs.Places.{as_name, as_list, as_term, as_theorem, as_each}
use Rattle.ot_machine.specs.DefinitionLists.{pairs_of}
use Rattle.ot_machine.proofs.ObjectKinds.{name-is, list-is, term-is, theorem-is}
use Rattle.ot_article.proofs.Operands.{const_given, list_given, type_given, given_by}
use Rattle.ot_log_records.proofs.Fitting.{Fits, FitsType, HasTypesTo}
use Rattle.ot_log_law.proofs.Kept.{IsKeptTerm, IsKept, kept-shallow}
use Rattle.ot_log_law.proofs.KeptObjects.{IsKeptObject}
use Rattle.ot_logic.proofs.Results.{bind-ok, same_Ok, unless-ok}

abbrev pub ShallowTheorems : Definition Name → Type 0
ShallowTheorems d = list_all (is_shallow_sequent names) (theorems names d) ≡ true

pub data IsDefining (ds : List (Definition Name)) (vs : List Object) (x : Definition Name) : Cmd → Type 0 where
  ByConst : (n : Name) (t : Tm Name) → vs ≡ name n ∷ term t ∷ [] → x ≡ ConDef n t
      → checked_const names (all_defined names ds) (all_used names ds) n t ≡ Ok tt → ShallowTheorems (ConDef n t)
      → IsDefining ds vs x words.DefineConst
  ByList : (os : Objects) (ps : List (Name × Variable Name)) (q : Sequent Name) → vs ≡ list os ∷ theorem q ∷ []
      → pairs_of os ≡ Ok ps → x ≡ ListDef ps q
      → checked_list names (all_defined names ds) (all_used names ds) (map (λ p. p.0) ps) (map (λ p. p.1) ps) q
      ≡ Ok tt
      → IsDefining ds vs x words.DefineConstList
  ByType : (n abs rep : Name) (os : Objects) (vars : List Name) (q : Sequent Name)
      → vs ≡ name n ∷ name abs ∷ name rep ∷ list os ∷ theorem q ∷ [] → as_each as_name os ≡ Ok vars
      → x ≡ TyDef n abs rep vars q
      → checked_type names (all_defined names ds) (all_used names ds) n abs rep vars q ≡ Ok tt
      → ShallowTheorems (TyDef n abs rep vars q) → IsDefining ds vs x words.DefineTypeOp

limited-is : (d e : Definition Name) → limited_definition names d ≡ Ok e → ShallowTheorems d × (e ≡ d)
limited-is d e h =
    let (u, a, k) = bind-ok (unless Nesting (list_all (is_shallow_sequent names) (theorems names d))) _ e h in
    (unless-ok Nesting (list_all (is_shallow_sequent names) (theorems names d)) u a, sym (same_Ok d e k))

zipped-back : (ps : List (Name × Variable Name)) → zipped names (map (λ p. p.0) ps) (map (λ p. p.1) ps) ≡ ps
zipped-back [] = refl
zipped-back (p ∷ ps) = ap (λ l. p ∷ l) (zipped-back ps)

const-of : (ds : List (Definition Name)) (vs : List Object) (x : Definition Name) → const_given ds vs ≡ Ok x
    → IsDefining ds vs x words.DefineConst
const-of ds [] x h = absurd (cc)
const-of ds (n ∷ []) x h = absurd (cc)
const-of ds (n ∷ t ∷ []) x h =
    let a = bind-ok (as_term t) _ x h in
    let b = bind-ok (as_name n) _ x a.2 in
    let c = bind-ok (checked_const names (all_defined names ds) (all_used names ds) b.0 a.0) _ x b.2 in
    let l = limited-is (ConDef b.0 a.0) x c.2 in
    ByConst b.0 a.0 (λ i. name-is n b.0 b.1 i ∷ term-is t a.0 a.1 i ∷ []) l.1 c.1 l.0
const-of ds (n ∷ t ∷ u ∷ vs) x h = absurd (cc)

list-of : (ds : List (Definition Name)) (vs : List Object) (x : Definition Name) → list_given ds vs ≡ Ok x
    → IsDefining ds vs x words.DefineConstList
list-of ds [] x h = absurd (cc)
list-of ds (n ∷ []) x h = absurd (cc)
list-of ds (l ∷ t ∷ []) x h =
    let a = bind-ok (as_theorem t) _ x h in
    let b = bind-ok (as_list l) _ x a.2 in
    let c = bind-ok (pairs_of b.0) _ x b.2 in
    let d = bind-ok
    (checked_list names (all_defined names ds) (all_used names ds) (map (λ p. p.0) c.0) (map (λ p. p.1) c.0) a.0) _ x
    c.2 in
    ByList b.0 c.0 a.0 (λ i. list-is l b.0 b.1 i ∷ theorem-is t a.0 a.1 i ∷ []) c.1
    (sym (same_Ok (ListDef (zipped names (map (λ p. p.0) c.0) (map (λ p. p.1) c.0)) a.0) x d.2)
    ∙ ap (λ z. ListDef z a.0) (zipped-back c.0))
    d.1
list-of ds (n ∷ t ∷ u ∷ vs) x h = absurd (cc)

type-of : (ds : List (Definition Name)) (vs : List Object) (x : Definition Name) → type_given ds vs ≡ Ok x
    → IsDefining ds vs x words.DefineTypeOp
type-of ds [] x h = absurd (cc)
type-of ds (n ∷ []) x h = absurd (cc)
type-of ds (n ∷ a ∷ []) x h = absurd (cc)
type-of ds (n ∷ a ∷ r ∷ []) x h = absurd (cc)
type-of ds (n ∷ a ∷ r ∷ l ∷ []) x h = absurd (cc)
type-of ds (n ∷ a ∷ r ∷ l ∷ t ∷ []) x h =
    let q = bind-ok (as_theorem t) _ x h in
    let vs = bind-ok (as_list l >>= as_each as_name) _ x q.2 in
    let os = bind-ok (as_list l) (as_each as_name) vs.0 vs.1 in
    let rep = bind-ok (as_name r) _ x vs.2 in
    let abs = bind-ok (as_name a) _ x rep.2 in
    let m = bind-ok (as_name n) _ x abs.2 in
    let c = bind-ok (checked_type names (all_defined names ds) (all_used names ds) m.0 abs.0 rep.0 vs.0 q.0) _ x
    m.2 in
    let k = limited-is (TyDef m.0 abs.0 rep.0 vs.0 q.0) x c.2 in
    ByType m.0 abs.0 rep.0 os.0 vs.0 q.0 (λ i. name-is n m.0 m.1 i ∷ name-is a abs.0 abs.1 i ∷ name-is r rep.0 rep.1 i
    ∷ list-is l os.0 os.1 i ∷ theorem-is t q.0 q.1 i ∷ [])
    os.2 k.1 c.1 k.0
type-of ds (n ∷ a ∷ r ∷ l ∷ t ∷ u ∷ vs) x h = absurd (cc)

pub defining-of : (w : Cmd) (ds : List (Definition Name)) (vs : List Object) (x : Definition Name)
    → given_by w ds vs ≡ Ok x
    → IsDefining ds vs x w
defining-of words.DefineConst ds vs x h = const-of ds vs x h
defining-of words.DefineConstList ds vs x h = list-of ds vs x h
defining-of words.DefineTypeOp ds vs x h = type-of ds vs x h
defining-of _ ds vs x h = absurd (cc)

-- ---- constants in the place of variables: of the same type, no deeper

-- what a variable is replaced by
record IsLeaf (v : Variable Name) (t : Tm Name) : Type 0 where
  typed : (l : List (Ty Name)) → type_in names l t ≡ Some v.ty
  depth : depth_tm names t ≡ 1
  types : (n : ℕ) (l : List (Ty Name)) → FitsType names n (Some v.ty) → HasTypesTo names n l t

leaf-at : (ps : List (Name × Variable Name)) (v : Variable Name) → IsLeaf v (term_at names (constants_for names ps) v)
leaf-at [] v = record { typed = λ l. refl; depth = refl; types = λ n l h. h }
leaf-at (p ∷ ps) v = elim (var_cases names tells_names v p.1) [
  | inl e ↦
      subst (IsLeaf v) (ap (λ b. cond b (Con p.0 p.1.ty) (term_at names (constants_for names ps) v)) (sym e.0))
      (record {
        typed = λ l. ap (λ z. Some z.ty) (sym e.1);
        depth = refl;
        types = λ n l h. subst (λ (z : Variable Name). FitsType names n (Some z.ty)) e.1 h;
      })
  | inr e ↦
      subst (IsLeaf v) (ap (λ b. cond b (Con p.0 p.1.ty) (term_at names (constants_for names ps) v)) (sym e.0))
      (leaf-at ps v)
]

module _ (ps : List (Name × Variable Name)) where
  abbrev put : Tm Name → Tm Name
  put = subst_tm names [] (constants_for names ps)

  same-inst : (t : Ty Name) → inst_by names (λ n. TyVar n) t ≡ t
  same-inst t = inst_by-id names t

  leaf-of : (v : Variable Name) → IsLeaf v (put (Free v))
  leaf-of v =
      subst (λ z. IsLeaf v (term_at names (constants_for names ps) (record { name = v.name; ty = z })))
      (sym (same-inst v.ty)) (leaf-at ps v)

  put-typed : (l : List (Ty Name)) (t : Tm Name) → type_in names l (put t) ≡ type_in names l t
  put-typed l (Free v) = (leaf-of v).typed l
  put-typed l (Con n t) = ap Some (same-inst t)
  put-typed l (Bound k) = refl
  put-typed l (App f x) = λ i. applied names (put-typed l f i) (put-typed l x i)
  put-typed l (Abs t b) =
      (λ i. option_map (fun_ty names (same-inst t i)) (type_in names (same-inst t i ∷ l) (put b)))
      ∙ ap (option_map (fun_ty names t)) (put-typed (t ∷ l) b)

  put-depth : (t : Tm Name) → depth_tm names (put t) ≡ depth_tm names t
  put-depth (Free v) = (leaf-of v).depth
  put-depth (Con n t) = refl
  put-depth (Bound k) = refl
  put-depth (App f x) = λ i. suc (max (put-depth f i) (put-depth x i))
  put-depth (Abs t b) = ap suc (put-depth b)

  put-types : (n : ℕ) (l : List (Ty Name)) (t : Tm Name) → HasTypesTo names n l t → HasTypesTo names n l (put t)
  put-types n l (Free v) h = (leaf-of v).types n l h
  put-types n l (Con c t) h = subst (λ z. FitsType names n (Some z)) (sym (same-inst t)) h
  put-types n l (Bound k) h = h
  put-types n l (App f x) h = (
    subst (FitsType names n) (sym (put-typed l (App f x))) h.0,
    put-types n l f h.1,
    put-types n l x h.2,
  )
  put-types n l (Abs t b) h = (
    subst (FitsType names n) (sym (put-typed l (Abs t b))) h.0,
    subst (λ z. HasTypesTo names n (z ∷ l) (put b)) (sym (same-inst t)) (put-types n (t ∷ l) b h.1),
  )

  pub put-fits : (n : ℕ) (t : Tm Name) → Fits names n t → Fits names n (put t)
  put-fits n t f = record { depth = subst (λ z. z ≤ n) (sym (put-depth t)) f.depth; types = put-types n [] t f.types }

constants-typed : (ps : List (Name × Variable Name)) → IsTyped names (constants_for names ps)
constants-typed [] = tt
constants-typed (p ∷ ps) = (refl, constants-typed ps)

-- ---- the theorems of a definition are kept

all-kept : (qs : List (Sequent Name))
    → ((j : ℕ) (q : Sequent Name) → slice_get qs j ≡ Some q → IsSequent names q × (q.hyps ≡ []))
    → list_all (is_shallow_sequent names) qs ≡ true → AllByRecursion IsKept qs
all-kept [] each h = tt
all-kept (q ∷ qs) each h =
    let p = and_parts (is_shallow_sequent names q) (list_all (is_shallow_sequent names) qs) h in
    let (s, e) = each 0 q refl in
    (kept-shallow q s (subst AreDistinct (sym e) tt) p.0, all-kept qs (λ j r g. each (suc j) r g) p.1)

no-symbols : AreSymbolsOf names [] [] []
no-symbols = record { defined = λ s. (λ m. absurd m, λ m. absurd m.1); used = λ s. (λ m. absurd m, λ m. absurd m.1) }

pub defined-kept : (w : Cmd) (vs : List Object) (x : Definition Name) → AllByRecursion IsKeptObject vs
    → IsDefining [] vs x w
    → AllByRecursion IsKept (theorems names x)
defined-kept w vs x k (ByConst n t s e c h) =
    let t_kept : IsKeptTerm t = (subst (AllByRecursion IsKeptObject) s k).1.0 in
    let fine = (constants_are_next names tells_names [] [] [] [] n t no-symbols t_kept.typed c).fine in
    subst (λ z. AllByRecursion IsKept (theorems names z)) (sym e)
    (all-kept (theorems names (ConDef n t))
    (λ j q g. (
      definition-sequents names tells_names [] [] (ConDef n t) fine tt j q g,
      no_hyps-theorems names
          (ConDef n t) j q g,
    ))
    h)
defined-kept w vs x k (ByList os ps q s e f c) =
    let q_kept : IsKept q = (subst (AllByRecursion IsKeptObject) s k).1.0 in
    let made : Sequent Name = sequent_of names (subst_tm names [] (constants_for names ps) q.concl) in
    let kept : IsKept made = record {
      sequent = record {
        hyps = tt;
        concl =
            subst-typed names tells_names [] (constants_for names ps) q.concl
            (bool_ty names) (constants-typed ps) q_kept.sequent.concl;
      };
      distinct = tt;
      hyps = tt;
      concl = put-fits ps depth_limit q.concl q_kept.concl;
    } in
    subst (λ z. AllByRecursion IsKept (theorems names z)) (sym f) (kept, tt)
defined-kept w vs x k (ByType n abs rep os vars q s e f c h) =
    let q_kept : IsKept q = (subst (AllByRecursion IsKeptObject) s k).1.1.1.1.0 in
    let fine = (types_are_next names tells_names (q ∷ []) [] [] [] n abs rep vars q no-symbols
    (assumption-theorem names (q ∷ []) [] 0 q refl q_kept.sequent q_kept.distinct) c).fine in
    subst (λ z. AllByRecursion IsKept (theorems names z)) (sym f)
    (all-kept (theorems names (TyDef n abs rep vars q))
    (λ j r g. (
      definition-sequents names tells_names (q ∷ []) [] (TyDef n abs rep vars q) fine q_kept.sequent j r g,
      no_hyps-theorems names (TyDef n abs rep vars q) j r g,
    )) h)
