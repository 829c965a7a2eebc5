-- Lists that words read hold no theorem, so a theorem is an operand of theorems and definitions alone.
use Rattle.std.specs.Prelude.{nat_le}
use Rattle.std.specs.List.{AllByRecursion}
use Rattle.std.proofs.Common.{◌≡◌, true, List, [], ◌∷◌, Result, Ok, refl, sym, subst, inl, inr, ◌⊎◌}
use Rattle.ot_logic.specs.Names.{Name}
use Rattle.ot_logic.specs.Naming.{names}
use Rattle.ot_logic.specs.Trees.{Ty, Variable, Tm, Sequent, Definition}
use Rattle.ot_logic.specs.Hol.{TypeMap, TermMap, depth_limit}
use Rattle.ot_logic.specs.Faults.{Fault, Nesting, BadSubst, BadDefinitionList}
use Rattle.ot_logic.specs.Answers.{◌>>=◌, unless}
use Rattle.ot_logic.specs.Rules.{has_type}
use Rattle.ot_logic.specs.declared.command.Cmd.{Cmd}
use Rattle.ot_logic.specs.declared.command.Cmd.TheVariants as words
use Rattle.ot_laws.proofs.Steps.{limit-ok}
use Rattle.ot_kernel.specs.Pairs.{with_type, with_term}
use Rattle.ot_machine.specs.Objects.{Object, Objects, number, name, list, type_op, a_type, constant}
use Rattle.ot_machine.specs.Objects.{variable, term, theorem, no_objects, more_objects, nesting}
use Rattle.ot_machine.specs.Places.{as_name, as_list, as_type_op, as_type, as_constant, as_variable, as_term, as_each}
use Rattle.ot_machine.specs.Parts.{or_bad, two_of}
use Rattle.ot_machine.specs.Substitutions.{type_pair, term_pair, types_onto, terms_onto, maps_of}
use Rattle.ot_machine.specs.DefinitionLists.{definition_pair}
use Rattle.ot_machine.specs.Makers.{Read, of_top, of_two, maker, cons_made, type_op_made}
use Rattle.ot_machine.specs.Makers.{op_type_made, var_type_made, var_made, var_term_made}
use Rattle.ot_machine.specs.Makers.{const_made, const_term_made, app_term_made, abs_term_made}
use Rattle.ot_machine.proofs.ObjectKinds.{list-is, or_bad-is}
use Rattle.ot_article.proofs.Operands.{made_of}
use Rattle.ot_log_law.specs.Derived.{makes_theorem}
use Rattle.ot_log_law.proofs.Steps.{one-of, two-of, IsStep, ByRefl, ByAssume, ByBeta, ByAbsThm, BySubst}
use Rattle.ot_log_law.proofs.Steps.{ByAxiom, BySym, ByEqMp, ByAppThm, ByDeductAntisym, ByTrans, ByProveHyp, step-of}
use Rattle.ot_log_law.proofs.Defining.{IsDefining, ByConst, ByList, ByType}
use Rattle.ot_logic.proofs.Results.{bind-ok}

-- no theorem in it
abbrev mutual
  pub IsFree : Object → Type 0
  IsFree (number k) = Unit {0}
  IsFree (name n) = Unit {0}
  IsFree (list os) = AreFree os
  IsFree (type_op n) = Unit {0}
  IsFree (a_type t) = Unit {0}
  IsFree (constant n) = Unit {0}
  IsFree (variable v) = Unit {0}
  IsFree (term t) = Unit {0}
  IsFree (theorem q) = ⊥

  pub AreFree : Objects → Type 0
  AreFree no_objects = Unit {0}
  AreFree (more_objects o os) = IsFree o × AreFree os

-- a theorem, or without one
abbrev pub IsPlain : Object → Type 0
IsPlain v = IsFree v ⊎ ((q : Sequent Name) × (v ≡ theorem q))

abbrev pub EachFree : List Object → Type 0
EachFree = AllByRecursion IsFree

abbrev pub EachPlain : List Object → Type 0
EachPlain = AllByRecursion IsPlain

-- ---- what is read as an object of a kind

name-free : (o : Object) (n : Name) → as_name o ≡ Ok n → IsFree o
name-free (name m) n h = tt
name-free _ n h = absurd (cc)

type_op-free : (o : Object) (n : Name) → as_type_op o ≡ Ok n → IsFree o
type_op-free (type_op m) n h = tt
type_op-free _ n h = absurd (cc)

type-free : (o : Object) (t : Ty Name) → as_type o ≡ Ok t → IsFree o
type-free (a_type t) u h = tt
type-free _ u h = absurd (cc)

constant-free : (o : Object) (n : Name) → as_constant o ≡ Ok n → IsFree o
constant-free (constant m) n h = tt
constant-free _ n h = absurd (cc)

variable-free : (o : Object) (v : Variable Name) → as_variable o ≡ Ok v → IsFree o
variable-free (variable v) w h = tt
variable-free _ w h = absurd (cc)

term-free : (o : Object) (t : Tm Name) → as_term o ≡ Ok t → IsFree o
term-free (term t) u h = tt
term-free _ u h = absurd (cc)

list-free : (o : Object) (os : Objects) → as_list o ≡ Ok os → AreFree os → IsFree o
list-free o os e h = subst IsFree (sym (list-is o os e)) h

pub each-free : {A : Type 0} (as_one : Object → Result A (Fault Name))
    → ((o : Object) (a : A) → as_one o ≡ Ok a → IsFree o)
    → (os : Objects) (xs : List A) → as_each as_one os ≡ Ok xs → AreFree os
each-free as_one one no_objects xs h = tt
each-free as_one one (more_objects o os) xs h =
    let a = bind-ok (as_one o) _ xs h in
    let b = bind-ok (as_each as_one os) _ xs a.2 in
    (one o a.0 a.1, each-free as_one one os b.0 b.1)

pub terms-free : (os : Objects) (ts : List (Tm Name)) → as_each as_term os ≡ Ok ts → AreFree os
terms-free = each-free as_term term-free

two-free : (bad : Fault Name) (os : Objects) (p : Object × Object) → two_of bad os ≡ Ok p → IsFree p.0 → IsFree p.1
    → AreFree os
two-free bad (more_objects x (more_objects y no_objects)) p h a b =
    let e : (x, y) ≡ p = cc in (subst IsFree (λ i. (sym e i).0) a, (subst IsFree (λ i. (sym e i).1) b, tt))
two-free bad _ p h a b = absurd (cc)

pair-free : {A B : Type 0} (bad : Fault Name) (as_one : Object → Result A (Fault Name))
    (as_two : Object → Result B (Fault Name))
    → ((o : Object) (a : A) → as_one o ≡ Ok a → IsFree o) → ((o : Object) (b : B) → as_two o ≡ Ok b → IsFree o)
    → (o : Object) (r : A × B)
    → (or_bad bad (as_list o)
    >>= λ os. two_of bad os >>= λ p. or_bad bad (as_one p.0) >>= λ a. or_bad bad (as_two p.1) >>= λ b. Ok (a, b))
    ≡ Ok r
    → IsFree o
pair-free bad as_one as_two one two o r h =
    let a = bind-ok (or_bad bad (as_list o)) _ r h in
    let b = bind-ok (two_of bad a.0) _ r a.2 in
    let c = bind-ok (or_bad bad (as_one b.0.0)) _ r b.2 in
    let d = bind-ok (or_bad bad (as_two b.0.1)) _ r c.2 in
    list-free o a.0 (or_bad-is bad (as_list o) a.0 a.1)
    (two-free bad a.0 b.0 b.1 (one b.0.0 c.0 (or_bad-is bad (as_one b.0.0) c.0 c.1))
    (two b.0.1 d.0 (or_bad-is bad (as_two b.0.1) d.0 d.1)))

types-free : (s t : TypeMap names) (os : Objects) → types_onto s os ≡ Ok t → AreFree os
types-free s t no_objects h = tt
types-free s t (more_objects o os) h =
    let a = bind-ok (type_pair o) _ t h in
    (pair-free BadSubst as_name as_type name-free type-free o a.0 a.1, types-free (with_type s a.0.0 a.0.1) t os a.2)

terms_onto-free : (m t : TermMap names) (os : Objects) → terms_onto m os ≡ Ok t → AreFree os
terms_onto-free m t no_objects h = tt
terms_onto-free m t (more_objects o os) h =
    let a = bind-ok (term_pair o) _ t h in
    let b = bind-ok (unless BadSubst (has_type names a.0.1 a.0.0.ty)) _ t a.2 in (
      pair-free BadSubst as_variable as_term variable-free term-free o a.0 a.1,
      terms_onto-free
          (with_term m a.0.0 a.0.1) t os b.2,
    )

maps-free : (os : Objects) (r : TypeMap names × TermMap names) → maps_of os ≡ Ok r → AreFree os
maps-free os r h =
    let a = bind-ok (two_of BadSubst os) _ r h in
    let b = bind-ok (or_bad BadSubst (as_list a.0.0)) _ r a.2 in
    let c = bind-ok (or_bad BadSubst (as_list a.0.1)) _ r b.2 in
    let d = bind-ok (types_onto [] b.0) _ r c.2 in
    let e = bind-ok (terms_onto [] c.0) _ r d.2 in
    two-free BadSubst os a.0 a.1
    (list-free a.0.0 b.0 (or_bad-is BadSubst (as_list a.0.0) b.0 b.1) (types-free [] d.0 b.0 d.1))
    (list-free a.0.1 c.0 (or_bad-is BadSubst (as_list a.0.1) c.0 c.1) (terms_onto-free [] e.0 c.0 e.1))

-- ---- the operands of a theorem

abbrev plain : (q : Sequent Name) → IsPlain (theorem q)
plain q = inr (q, refl)

pub step-plain : (w : Cmd) (vs : List Object) (q : Sequent Name) → IsStep vs q w → EachPlain vs
step-plain w vs q (ByRefl t s h) = subst EachPlain (sym s) (inl tt, tt)
step-plain w vs q (ByAssume t s h) = subst EachPlain (sym s) (inl tt, tt)
step-plain w vs q (ByBeta t s h) = subst EachPlain (sym s) (inl tt, tt)
step-plain w vs q (ByAbsThm v a s h) = subst EachPlain (sym s) (inl tt, (plain a, tt))
step-plain w vs q (BySubst os maps a s e h) = subst EachPlain (sym s) (inl (maps-free os maps e), (plain a, tt))
step-plain w vs q (ByAxiom os hyps p s e h) = subst EachPlain (sym s) (inl (terms-free os hyps e), (inl tt, tt))
step-plain w vs q (BySym a s h) = subst EachPlain (sym s) (plain a, tt)
step-plain w vs q (ByEqMp a b s h) = subst EachPlain (sym s) (plain a, (plain b, tt))
step-plain w vs q (ByAppThm a b s h) = subst EachPlain (sym s) (plain a, (plain b, tt))
step-plain w vs q (ByDeductAntisym a b s h) = subst EachPlain (sym s) (plain a, (plain b, tt))
step-plain w vs q (ByTrans a b s h) = subst EachPlain (sym s) (plain a, (plain b, tt))
step-plain w vs q (ByProveHyp a b s h) = subst EachPlain (sym s) (plain a, (plain b, tt))

pub defining-plain : (w : Cmd) (ds : List (Definition Name)) (vs : List Object) (x : Definition Name)
    → IsDefining ds vs x w
    → EachPlain vs
defining-plain w ds vs x (ByConst n t s e c h) = subst EachPlain (sym s) (inl tt, (inl tt, tt))
defining-plain w ds vs x (ByList os ps q s f e c) =
    subst EachPlain (sym s) (
      inl (each-free definition_pair (pair-free BadDefinitionList as_name as_variable name-free variable-free) os ps
          f),
      (plain q, tt),
    )
defining-plain w ds vs x (ByType n abs rep os vars q s f e c h) =
    subst EachPlain (sym s) (inl tt, (inl tt, (inl tt, (inl (each-free as_name name-free os vars f), (plain q, tt)))))

-- ---- the operands of what has no theorem in it

one-free : {A : Type 0} (f : Read → Read) (as_one : Object → Result A (Fault Name))
    → ((o : Object) (a : A) → as_one o ≡ Ok a → IsFree o)
    → ((x v : Object) → f (Ok x) ≡ Ok v → (a : A) × (as_one x ≡ Ok a))
    → (vs : List Object) (v : Object) → made_of (of_top f) vs ≡ Ok v → EachFree vs
one-free f as_one one reads vs v e =
    let (x, s, h) = one-of f vs v e in let a = reads x v h in subst EachFree (sym s) (one x a.0 a.1, tt)

both-free : {A B : Type 0} (f : Read → Read → Read)
    (as_top : Object → Result A (Fault Name)) (as_below : Object → Result B (Fault Name))
    → ((o : Object) (a : A) → as_top o ≡ Ok a → IsFree o) → ((o : Object) (b : B) → as_below o ≡ Ok b → IsFree o)
    → ((x y v : Object) → f (Ok x) (Ok y) ≡ Ok v → ((a : A) × (as_top x ≡ Ok a)) × ((b : B) × (as_below y ≡ Ok b)))
    → (vs : List Object) (v : Object) → made_of (of_two f) vs ≡ Ok v → EachFree vs
both-free f as_top as_below top below reads vs v e =
    let (y, x, s, h) = two-of f vs v e in
    let (a, b) = reads x y v h in subst EachFree (sym s) (below y b.0 b.1, (top x a.0 a.1, tt))

-- what was read first, and second
two-read : {A B : Type 0} (r : Result A (Fault Name)) (s : Result B (Fault Name)) (f : A → B → Read) (v : Object)
    → (r >>= λ a. s >>= λ b. f a b) ≡ Ok v → ((a : A) × (r ≡ Ok a)) × ((b : B) × (s ≡ Ok b))
two-read r s f v e = let a = bind-ok r _ v e in let b = bind-ok s _ v a.2 in ((a.0, a.1), (b.0, b.1))

one-read : {A : Type 0} (r : Result A (Fault Name)) (f : A → Read) (v : Object) → (r >>= f) ≡ Ok v
    → (a : A) × (r ≡ Ok a)
one-read r f v e = let a = bind-ok r f v e in (a.0, a.1)

types-listed : (o : Object) (ts : List (Ty Name)) → (as_list o >>= as_each as_type) ≡ Ok ts → IsFree o
types-listed o ts e =
    let a = bind-ok (as_list o) (as_each as_type) ts e in list-free o a.0 a.1 (each-free as_type type-free a.0 ts a.2)

cons-free : (vs : List Object) (v : Object) → made_of (maker words.Cons) vs ≡ Ok v → IsFree v → EachFree vs
cons-free vs v e h =
    let (y, x, s, k) = two-of cons_made vs v e in
    let a = bind-ok (as_list x) _ v k in
    let made : Object = list (more_objects y a.0) in
    let r : IsFree made = subst IsFree (sym (limit-ok (nat_le (nesting made) depth_limit) Nesting made v a.2).1) h in
    subst EachFree (sym s) (r.0, (list-free x a.0 a.1 r.1, tt))

by-step : (w : Cmd) (vs : List Object) (v : Object) → makes_theorem w ≡ true → made_of (maker w) vs ≡ Ok v → IsFree v
    → EachFree vs
by-step w vs v m e h = let s = step-of w vs v m e in absurd (subst IsFree s.1 h)

pub made-free : (w : Cmd) (vs : List Object) (v : Object) → made_of (maker w) vs ≡ Ok v → IsFree v → EachFree vs
made-free words.Nil [] v e h = tt
made-free words.Nil (x ∷ vs) v e h = absurd (cc)
made-free words.Cons vs v e h = cons-free vs v e h
made-free words.TypeOp vs v e h = one-free type_op_made as_name name-free (λ x u k. one-read (as_name x) _ u k) vs v e
made-free words.OpType vs v e h =
    both-free op_type_made (λ o. as_list o >>= as_each as_type) as_type_op types-listed
    type_op-free (λ x y u k. two-read (as_list x >>= as_each as_type) (as_type_op y) _ u k) vs v e
made-free words.VarType vs v e h = one-free var_type_made as_name name-free (λ x u k. one-read (as_name x) _ u k) vs v
    e
made-free words.Var vs v e h =
    both-free var_made as_type as_name type-free name-free (λ x y u k. two-read (as_type x) (as_name y) _ u k) vs v e
made-free words.VarTerm vs v e h =
    one-free var_term_made as_variable variable-free (λ x u k. one-read (as_variable x) _ u k) vs v e
made-free words.Const vs v e h = one-free const_made as_name name-free (λ x u k. one-read (as_name x) _ u k) vs v e
made-free words.ConstTerm vs v e h =
    both-free const_term_made as_type as_constant type-free constant-free
    (λ x y u k. two-read (as_type x) (as_constant y) _ u k) vs v e
made-free words.AppTerm vs v e h =
    both-free app_term_made as_term as_term term-free term-free (λ x y u k. two-read (as_term x) (as_term y) _ u k) vs
    v e
made-free words.AbsTerm vs v e h =
    both-free abs_term_made as_term as_variable term-free variable-free
    (λ x y u k. two-read (as_term x) (as_variable y) _ u k) vs v e
made-free words.Refl vs v e h = by-step words.Refl vs v refl e h
made-free words.Assume vs v e h = by-step words.Assume vs v refl e h
made-free words.EqMp vs v e h = by-step words.EqMp vs v refl e h
made-free words.AbsThm vs v e h = by-step words.AbsThm vs v refl e h
made-free words.AppThm vs v e h = by-step words.AppThm vs v refl e h
made-free words.DeductAntisym vs v e h = by-step words.DeductAntisym vs v refl e h
made-free words.BetaConv vs v e h = by-step words.BetaConv vs v refl e h
made-free words.Subst vs v e h = by-step words.Subst vs v refl e h
made-free words.Sym vs v e h = by-step words.Sym vs v refl e h
made-free words.Trans vs v e h = by-step words.Trans vs v refl e h
made-free words.ProveHyp vs v e h = by-step words.ProveHyp vs v refl e h
made-free words.Axiom vs v e h = by-step words.Axiom vs v refl e h
made-free _ vs v e h = absurd (cc)
