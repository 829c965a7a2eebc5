-- No number is a part of what makes an object without numbers.
use Rattle.std.proofs.Common.{◌≡◌, Bool, true, false, List, [], ◌∷◌, Result, Ok, Err, inl, inr, sym, subst}
use Rattle.std.specs.Prelude.{ℤ, nat_le, if◌then◌else◌}
use Rattle.ot_logic.specs.Names.{Name}
use Rattle.ot_logic.specs.Naming.{names}
use Rattle.ot_logic.specs.Trees.{Ty, Variable, Tm, Definition}
use Rattle.ot_logic.specs.Hol.{TypeMap, TermMap, depth_limit}
use Rattle.ot_logic.specs.Rules.{has_type}
use Rattle.ot_logic.specs.Faults.{Fault, BadSubst, BadDefinitionList, Nesting}
use Rattle.ot_logic.specs.Answers.{◌>>=◌, unless}
use Rattle.ot_logic.specs.Lists.{IsMember}
use Rattle.ot_logic.specs.declared.command.Cmd.{Cmd}
use Rattle.ot_logic.specs.declared.command.Cmd.TheVariants as words
use Rattle.ot_trace.specs.Origins.{Origin, Origins, Number, Named, Make, Define}
use Rattle.ot_trace.specs.Origins.{Outcome, NoOrigins, MoreOrigins, parts, parts_all}
use Rattle.ot_machine.specs.Objects.{Object, Objects, number, name, list, type_op, a_type, constant}
use Rattle.ot_machine.specs.Objects.{variable, term, theorem, no_objects, more_objects, nesting}
use Rattle.ot_machine.specs.Places.{as_name, as_list, as_type_op, as_type, as_constant}
use Rattle.ot_machine.specs.Places.{as_variable, as_term, as_theorem, as_each}
use Rattle.ot_machine.specs.Parts.{or_bad, two_of}
use Rattle.ot_kernel.specs.Pairs.{with_type, with_term}
use Rattle.ot_machine.specs.Substitutions.{type_pair, term_pair, types_onto, terms_onto, maps_of}
use Rattle.ot_machine.specs.DefinitionLists.{definition_pair, pairs_of}
use Rattle.ot_machine.specs.Makers.{Read, Maker, of_none, of_top, of_two, no_maker, maker, consed, subst_made}
use Rattle.ot_machine.specs.Values.{applied, value, values, definition_of, defines, theorem_of}
use Rattle.ot_machine.proofs.ObjectKinds.{or_bad-is}
use Rattle.ot_article.proofs.Operands.{made_of, made-of, const_given, list_given, type_given, given_by, given-of}
use Rattle.ot_logic.proofs.Members.{IsMember-cases}
use Rattle.ot_logic.proofs.Results.{bind-ok}

-- no number, and no list with one
abbrev mutual
  pub IsPure : Object → Type 0
  IsPure (number k) = ⊥
  IsPure (name n) = Unit {0}
  IsPure (list os) = ArePure os
  IsPure (type_op n) = Unit {0}
  IsPure (a_type t) = Unit {0}
  IsPure (constant n) = Unit {0}
  IsPure (variable v) = Unit {0}
  IsPure (term t) = Unit {0}
  IsPure (theorem q) = Unit {0}

  pub ArePure : Objects → Type 0
  ArePure no_objects = Unit {0}
  ArePure (more_objects o os) = IsPure o × ArePure os

abbrev pub EachPure : List Object → Type 0
EachPure [] = Unit {0}
EachPure (v ∷ vs) = IsPure v × EachPure vs

-- ---- what is read as an object of a kind

name-pure : (o : Object) (n : Name) → as_name o ≡ Ok n → IsPure o
name-pure (name m) n h = tt
name-pure _ n h = absurd (cc)

type_op-pure : (o : Object) (n : Name) → as_type_op o ≡ Ok n → IsPure o
type_op-pure (type_op m) n h = tt
type_op-pure _ n h = absurd (cc)

type-pure : (o : Object) (t : Ty Name) → as_type o ≡ Ok t → IsPure o
type-pure (a_type t) u h = tt
type-pure _ u h = absurd (cc)

constant-pure : (o : Object) (n : Name) → as_constant o ≡ Ok n → IsPure o
constant-pure (constant m) n h = tt
constant-pure _ n h = absurd (cc)

variable-pure : (o : Object) (v : Variable Name) → as_variable o ≡ Ok v → IsPure o
variable-pure (variable v) w h = tt
variable-pure _ w h = absurd (cc)

pub term-pure : (o : Object) (t : Tm Name) → as_term o ≡ Ok t → IsPure o
term-pure (term t) u h = tt
term-pure _ u h = absurd (cc)

list-pure : (o : Object) (os : Objects) → as_list o ≡ Ok os → ArePure os → IsPure o
list-pure (list os) ps h p = let e : os ≡ ps = cc in subst ArePure (sym e) p
list-pure _ ps h p = absurd (cc)

pub each-pure : {A : Type 0} (as_one : Object → Result A (Fault Name))
    → ((o : Object) (a : A) → as_one o ≡ Ok a → IsPure o) → (os : Objects) (xs : List A) → as_each as_one os ≡ Ok xs
    → ArePure os
each-pure as_one one no_objects xs h = tt
each-pure as_one one (more_objects o os) xs h =
    let a = bind-ok (as_one o) (λ x. as_each as_one os >>= λ xs. Ok (x ∷ xs)) xs h in
    let b = bind-ok (as_each as_one os) (λ xs. Ok (a.0 ∷ xs)) xs a.2 in
    (one o a.0 a.1, each-pure as_one one os b.0 b.1)

listed-pure : {A : Type 0} (as_one : Object → Result A (Fault Name))
    → ((o : Object) (a : A) → as_one o ≡ Ok a → IsPure o) → (o : Object) (xs : List A)
    → (as_list o >>= as_each as_one) ≡ Ok xs → IsPure o
listed-pure as_one one o xs h = let a = bind-ok (as_list o) (as_each as_one) xs h in
    list-pure o a.0 a.1 (each-pure as_one one a.0 xs a.2)

two-pure : (bad : Fault Name) (os : Objects) (p : Object × Object) → two_of bad os ≡ Ok p → IsPure p.0 → IsPure p.1
    → ArePure os
two-pure bad (more_objects x (more_objects y no_objects)) p h a b = let e : (x, y) ≡ p = cc in
    (subst IsPure (λ i. (sym e i).0) a, (subst IsPure (λ i. (sym e i).1) b, tt))
two-pure bad _ p h a b = absurd (cc)

-- a list of two objects of two kinds
pair-pure : {A B : Type 0} (bad : Fault Name) (first : Object → Result A (Fault Name))
    (second : Object → Result B (Fault Name)) → ((o : Object) (a : A) → first o ≡ Ok a → IsPure o)
    → ((o : Object) (b : B) → second o ≡ Ok b → IsPure o)
    → (o : Object) (r : A × B)
    → (or_bad bad (as_list o) >>= λ os. two_of bad os >>= λ p. or_bad bad (first p.0)
    >>= λ a. or_bad bad (second p.1) >>= λ b. Ok (a, b)) ≡ Ok r → IsPure o
pair-pure bad first second one two o r h =
    let a = bind-ok (or_bad bad (as_list o)) _ r h in
    let b = bind-ok (two_of bad a.0) _ r a.2 in
    let c = bind-ok (or_bad bad (first b.0.0)) _ r b.2 in
    let d = bind-ok (or_bad bad (second b.0.1)) _ r c.2 in
    list-pure o a.0 (or_bad-is bad (as_list o) a.0 a.1)
    (two-pure bad a.0 b.0 b.1 (one b.0.0 c.0 (or_bad-is bad (first b.0.0) c.0 c.1))
    (two b.0.1 d.0 (or_bad-is bad (second b.0.1) d.0 d.1)))

types-pure : (s t : TypeMap names) (os : Objects) → types_onto s os ≡ Ok t → ArePure os
types-pure s t no_objects h = tt
types-pure s t (more_objects o os) h =
    let a = bind-ok (type_pair o) (λ p. types_onto (with_type s p.0 p.1) os) t h in
    (pair-pure BadSubst as_name as_type name-pure type-pure o a.0 a.1, types-pure (with_type s a.0.0 a.0.1) t os a.2)

terms-pure : (m t : TermMap names) (os : Objects) → terms_onto m os ≡ Ok t → ArePure os
terms-pure m t no_objects h = tt
terms-pure m t (more_objects o os) h =
    let a = bind-ok (term_pair o)
    (λ p. unless BadSubst (has_type names p.1 p.0.ty) >>= λ _. terms_onto (with_term m p.0 p.1) os) t h in
    let b = bind-ok (unless BadSubst (has_type names a.0.1 a.0.0.ty)) (λ _. terms_onto (with_term m a.0.0 a.0.1) os) t
    a.2 in (
      pair-pure BadSubst as_variable as_term variable-pure term-pure o a.0 a.1,
      terms-pure (with_term m a.0.0 a.0.1) t
          os b.2,
    )

maps-pure : (os : Objects) (r : TypeMap names × TermMap names) → maps_of os ≡ Ok r → ArePure os
maps-pure os r h =
    let a = bind-ok (two_of BadSubst os) _ r h in
    let b = bind-ok (or_bad BadSubst (as_list a.0.0)) _ r a.2 in
    let c = bind-ok (or_bad BadSubst (as_list a.0.1)) _ r b.2 in
    let d = bind-ok (types_onto [] b.0) _ r c.2 in
    let e = bind-ok (terms_onto [] c.0) _ r d.2 in
    two-pure BadSubst os a.0 a.1
    (list-pure a.0.0 b.0 (or_bad-is BadSubst (as_list a.0.0) b.0 b.1) (types-pure [] d.0 b.0 d.1))
    (list-pure a.0.1 c.0 (or_bad-is BadSubst (as_list a.0.1) c.0 c.1) (terms-pure [] e.0 c.0 e.1))

-- ---- what a word makes an object of

-- the operands are pure where what is made is
abbrev MakerPure : Maker → Type 0
MakerPure (of_none o) = Unit {0}
MakerPure (of_top f) = (x v : Object) → f (Ok x) ≡ Ok v → IsPure x
MakerPure (of_two f) = (x y v : Object) → f (Ok x) (Ok y) ≡ Ok v → IsPure v → IsPure y × IsPure x
MakerPure no_maker = Unit {0}

made-pure : (m : Maker) → MakerPure m → (vs : List Object) (v : Object) → made_of m vs ≡ Ok v → IsPure v → EachPure vs
made-pure (of_none o) h [] v p q = tt
made-pure (of_none o) h (x ∷ vs) v p q = absurd (cc)
made-pure (of_top f) h [] v p q = absurd (cc)
made-pure (of_top f) h (x ∷ []) v p q = (h x v p, tt)
made-pure (of_top f) h (x ∷ y ∷ vs) v p q = absurd (cc)
made-pure (of_two f) h [] v p q = absurd (cc)
made-pure (of_two f) h (x ∷ []) v p q = absurd (cc)
made-pure (of_two f) h (y ∷ x ∷ []) v p q = let r = h x y v p q in (r.0, (r.1, tt))
made-pure (of_two f) h (x ∷ y ∷ z ∷ vs) v p q = absurd (cc)
made-pure no_maker h vs v p q = absurd (cc)

-- an operand of one kind, and one of another
one-pure : {A : Type 0} (as_one : Object → Result A (Fault Name))
    → ((o : Object) (a : A) → as_one o ≡ Ok a → IsPure o) → (f : A → Read) (x v : Object) → (as_one x >>= f) ≡ Ok v
    → IsPure x
one-pure as_one one f x v p = let a = bind-ok (as_one x) f v p in one x a.0 a.1

both-pure : {A B : Type 0} (as_one : Object → Result A (Fault Name)) (as_two : Object → Result B (Fault Name))
    → ((o : Object) (a : A) → as_one o ≡ Ok a → IsPure o) → ((o : Object) (b : B) → as_two o ≡ Ok b → IsPure o)
    → (f : A → B → Read) (x y v : Object) → (as_one x >>= λ a. as_two y >>= λ b. f a b) ≡ Ok v → IsPure v
    → IsPure y × IsPure x
both-pure as_one as_two one two f x y v p q =
    let a = bind-ok (as_one x) (λ a. as_two y >>= λ b. f a b) v p in
    let b = bind-ok (as_two y) (f a.0) v a.2 in
    (two y b.0 b.1, one x a.0 a.1)

as-theorem-pure : (o : Object) (q : _) → as_theorem o ≡ Ok q → IsPure o
as-theorem-pure (theorem q) r h = tt
as-theorem-pure _ r h = absurd (cc)

abbrev chosen : Bool → Object → Read
chosen b o = if b then Ok o else Err Nesting

chosen-is : (b : Bool) (o v : Object) → chosen b o ≡ Ok v → o ≡ v
chosen-is true o v h = cc
chosen-is false o v h = absurd (cc)

cons-pure : (x y v : Object) → (as_list x >>= λ tail. consed y tail) ≡ Ok v → IsPure v → IsPure y × IsPure x
cons-pure x y v p q =
    let a = bind-ok (as_list x) (λ tail. consed y tail) v p in
    let o : Object = list (more_objects y a.0) in
    let r : IsPure o = subst IsPure (sym (chosen-is (nat_le (nesting o) depth_limit) o v a.2)) q in
    (r.0, list-pure x a.0 a.1 r.1)

subst-pure : (x y v : Object) → subst_made (Ok x) (Ok y) ≡ Ok v → IsPure v → IsPure y × IsPure x
subst-pure x y v p q =
    let a = bind-ok (as_theorem x) _ v p in
    let b = bind-ok (as_list y) _ v a.2 in
    let c = bind-ok (maps_of b.0) _ v b.2 in
    (list-pure y b.0 b.1 (maps-pure b.0 c.0 c.1), as-theorem-pure x a.0 a.1)

maker-pure : (w : Cmd) → MakerPure (maker w)
maker-pure words.Cons = cons-pure
maker-pure words.TypeOp = λ x v p. one-pure as_name name-pure _ x v p
maker-pure words.OpType = λ x y v p q. both-pure (λ o. as_list o >>= as_each as_type) as_type_op
    (listed-pure as_type type-pure) type_op-pure _ x y v p q
maker-pure words.VarType = λ x v p. one-pure as_name name-pure _ x v p
maker-pure words.Var = λ x y v p q. both-pure as_type as_name type-pure name-pure _ x y v p q
maker-pure words.VarTerm = λ x v p. one-pure as_variable variable-pure _ x v p
maker-pure words.Const = λ x v p. one-pure as_name name-pure _ x v p
maker-pure words.ConstTerm = λ x y v p q. both-pure as_type as_constant type-pure constant-pure _ x y v p q
maker-pure words.AppTerm = λ x y v p q. both-pure as_term as_term term-pure term-pure _ x y v p q
maker-pure words.AbsTerm = λ x y v p q. both-pure as_term as_variable term-pure variable-pure _ x y v p q
maker-pure words.Refl = λ x v p. one-pure as_term term-pure _ x v p
maker-pure words.Assume = λ x v p. one-pure as_term term-pure _ x v p
maker-pure words.EqMp = λ x y v p q. both-pure as_theorem as_theorem as-theorem-pure as-theorem-pure _ x y v p q
maker-pure words.AbsThm = λ x y v p q. both-pure as_theorem as_variable as-theorem-pure variable-pure _ x y v p q
maker-pure words.AppThm = λ x y v p q. both-pure as_theorem as_theorem as-theorem-pure as-theorem-pure _ x y v p q
maker-pure words.DeductAntisym = λ x y v p q. both-pure as_theorem as_theorem as-theorem-pure as-theorem-pure _ x y v
    p q
maker-pure words.BetaConv = λ x v p. one-pure as_term term-pure _ x v p
maker-pure words.Subst = subst-pure
maker-pure words.Sym = λ x v p. one-pure as_theorem as-theorem-pure _ x v p
maker-pure words.Trans = λ x y v p q. both-pure as_theorem as_theorem as-theorem-pure as-theorem-pure _ x y v p q
maker-pure words.ProveHyp = λ x y v p q. both-pure as_theorem as_theorem as-theorem-pure as-theorem-pure _ x y v p q
maker-pure words.Axiom = λ x y v p q. both-pure as_term (λ o. as_list o >>= as_each as_term) term-pure
    (listed-pure as_term term-pure) _ x y v p q
maker-pure _ = tt

-- ---- what a word defines of objects

const-pure : (ds : List (Definition Name)) (vs : List Object) (x : Definition Name) → const_given ds vs ≡ Ok x
    → EachPure vs
const-pure ds [] x h = absurd (cc)
const-pure ds (n ∷ []) x h = absurd (cc)
const-pure ds (n ∷ t ∷ []) x h = let a = bind-ok (as_term t) _ x h in let b = bind-ok (as_name n) _ x a.2 in
    (name-pure n b.0 b.1, (term-pure t a.0 a.1, tt))
const-pure ds (n ∷ t ∷ u ∷ vs) x h = absurd (cc)

list-given-pure : (ds : List (Definition Name)) (vs : List Object) (x : Definition Name) → list_given ds vs ≡ Ok x
    → EachPure vs
list-given-pure ds [] x h = absurd (cc)
list-given-pure ds (n ∷ []) x h = absurd (cc)
list-given-pure ds (l ∷ t ∷ []) x h =
    let a = bind-ok (as_theorem t) _ x h in
    let b = bind-ok (as_list l) _ x a.2 in
    let c = bind-ok (pairs_of b.0) _ x b.2 in (
      list-pure l b.0 b.1
          (each-pure definition_pair (pair-pure BadDefinitionList as_name as_variable name-pure variable-pure) b.0 c.0
          c.1),
      (as-theorem-pure t a.0 a.1, tt),
    )
list-given-pure ds (n ∷ t ∷ u ∷ vs) x h = absurd (cc)

type-given-pure : (ds : List (Definition Name)) (vs : List Object) (x : Definition Name) → type_given ds vs ≡ Ok x
    → EachPure vs
type-given-pure ds [] x h = absurd (cc)
type-given-pure ds (n ∷ []) x h = absurd (cc)
type-given-pure ds (n ∷ a ∷ []) x h = absurd (cc)
type-given-pure ds (n ∷ a ∷ r ∷ []) x h = absurd (cc)
type-given-pure ds (n ∷ a ∷ r ∷ l ∷ []) x h = absurd (cc)
type-given-pure ds (n ∷ a ∷ r ∷ l ∷ t ∷ []) x h =
    let e = bind-ok (as_theorem t) _ x h in
    let f = bind-ok (as_list l >>= as_each as_name) _ x e.2 in
    let g = bind-ok (as_name r) _ x f.2 in
    let i = bind-ok (as_name a) _ x g.2 in
    let j = bind-ok (as_name n) _ x i.2 in (
      name-pure n j.0 j.1,
      (
        name-pure a i.0 i.1,
        (name-pure r g.0 g.1, (listed-pure as_name name-pure l f.0 f.1, (as-theorem-pure t e.0 e.1, tt))),
      ),
    )
type-given-pure ds (n ∷ a ∷ r ∷ l ∷ t ∷ u ∷ vs) x h = absurd (cc)

given-pure : (w : Cmd) (ds : List (Definition Name)) (vs : List Object) (x : Definition Name)
    → given_by w ds vs ≡ Ok x → EachPure vs
given-pure words.DefineConst ds vs x h = const-pure ds vs x h
given-pure words.DefineConstList ds vs x h = list-given-pure ds vs x h
given-pure words.DefineTypeOp ds vs x h = type-given-pure ds vs x h
given-pure _ ds vs x h = absurd (cc)

-- ---- origins

mutual
  -- no number is a part of the origin of a pure object
  pub numberless : (o : Origin Name) (v : Object) (k : ℤ) → value o ≡ Ok v → IsPure v
      → ¬ (IsMember (Number k) (parts o))
  numberless (Number j) v k h p m = let e : number j ≡ v = cc in subst IsPure (sym e) p
  numberless (Named n) v k h p (inl e) = cc
  numberless (Named n) v k h p (inr m) = m
  numberless (Make w os) v k h p (inl e) = cc
  numberless (Make w os) v k h p (inr m) = let a = bind-ok (values os) (applied (maker w)) v h in
      all-numberless os a.0 k a.1 (made-pure (maker w) (maker-pure w) a.0 v (made-of (maker w) a.0 v a.2) p) m
  numberless (Define w os) v k h p m = absurd (cc)
  numberless (Outcome j d) v k h p (inl e) = cc
  numberless (Outcome j d) v k h p (inr m) = let a = bind-ok (definition_of [] d) (theorem_of j) v h in
      defined-numberless d a.0 k a.1 m

  all-numberless : (os : Origins Name) (vs : List Object) (k : ℤ) → values os ≡ Ok vs → EachPure vs
      → ¬ (IsMember (Number k) (parts_all os))
  all-numberless NoOrigins vs k h p m = m
  all-numberless (MoreOrigins o os) vs k h p m =
      let a = bind-ok (value o) (λ v. values os >>= λ us. Ok (v ∷ us)) vs h in
      let b = bind-ok (values os) (λ us. Ok (a.0 ∷ us)) vs a.2 in
      let f : a.0 ∷ b.0 ≡ vs = let g : Ok (a.0 ∷ b.0) ≡ Ok vs = b.2 in cc in
      let q : EachPure (a.0 ∷ b.0) = subst EachPure (sym f) p in
      elim (IsMember-cases (Number k) (parts o) (parts_all os) m)
      [ inl x ↦ numberless o a.0 k a.1 q.0 x | inr y ↦ all-numberless os b.0 k b.1 q.1 y ]

  pub defined-numberless : (d : Origin Name) (x : Definition Name) (k : ℤ) → definition_of [] d ≡ Ok x
      → ¬ (IsMember (Number k) (parts d))
  defined-numberless (Number j) x k h m = absurd (cc)
  defined-numberless (Named n) x k h m = absurd (cc)
  defined-numberless (Make w os) x k h m = absurd (cc)
  defined-numberless (Outcome j d) x k h m = absurd (cc)
  defined-numberless (Define w os) x k h (inl e) = cc
  defined-numberless (Define w os) x k h (inr m) = let a = bind-ok (values os) (defines w []) x h in
      all-numberless os a.0 k a.1 (given-pure w [] a.0 x (given-of w [] a.0 x a.2)) m
