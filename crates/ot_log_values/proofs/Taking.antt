-- What is read of the operands of a step whose value is read.
use Rattle.std.specs.Prelude.{◌≡◌, ◌==◌, ℕ, suc, true, List, [], ◌∷◌, map, length, Result, Ok}
use Rattle.std.specs.List.{All}
use Rattle.std.proofs.Common.{refl, sym, ap, subst, ◌∙◌, arith}
use Rattle.std.proofs.lemmas.Bool.Decides.{nat_tests}
use Rattle.std.proofs.lemmas.List.Elements.{All-nil, All-cons}
use Rattle.ot_logic.specs.Names.{Name}
use Rattle.ot_logic.specs.Naming.{names}
use Rattle.ot_logic.specs.Trees.{Ty, Variable, Tm}
use Rattle.ot_logic.specs.Hol.{TypeMap, TermMap}
use Rattle.ot_logic.specs.Rules.{has_type}
use Rattle.ot_logic.specs.Faults.{Fault, StackEmpty, BadSubst}
use Rattle.ot_logic.specs.Answers.{◌>>=◌, unless}
use Rattle.ot_logic.specs.declared.command.Cmd.{Cmd}
use Rattle.ot_logic.specs.declared.command.Cmd.TheVariants as words
use Rattle.ot_logic.specs.declared.kind.Kind.{Kind}
use Rattle.ot_logic.specs.declared.kind.Kind.TheVariants as kinds
use Rattle.ot_kernel.specs.Pairs.{with_type, with_term}
use Rattle.ot_trace.specs.Origins.{Origin, Origins, Number, Named, Make, Define, Outcome, make_one, make_two}
use Rattle.ot_machine.specs.Objects.{Object, Objects, number, name, list, type_op, a_type, constant}
use Rattle.ot_machine.specs.Objects.{variable, term, no_objects, more_objects, kind_of}
use Rattle.ot_machine.specs.Parts.{Reading, or_bad, two_of}
use Rattle.ot_machine.specs.Places.{as_name, as_list, as_type_op, as_type, as_constant, as_variable, as_term, as_each}
use Rattle.ot_machine.specs.Substitutions.{type_pair, term_pair, types_onto, terms_onto, maps_of}
use Rattle.ot_machine.specs.Makers.{arity, maker, cons_made, type_op_made, op_type_made, var_type_made, var_made}
use Rattle.ot_machine.specs.Makers.{var_term_made, const_made, const_term_made, app_term_made, abs_term_made}
use Rattle.ot_machine.specs.Values.{value, values}
use Rattle.ot_machine.specs.Meaning.{origin_of}
use Rattle.ot_machine.specs.declared.session.Session.{Session}
use Rattle.ot_machine.proofs.WordKinds.{word_kind, word-kind, outcome-kind}
use Rattle.ot_machine.proofs.ObjectKinds.{or_bad-is}
use Rattle.ot_log_values.specs.Steps.{HasResult, Reads, of_list, IsMake, IsPair, origins_of}
use Rattle.ot_log_values.specs.Lists.{AreValues, AreElementsOf}
use Rattle.ot_log_values.proofs.Making.{one-made, two-made}
use Rattle.ot_log_values.proofs.Listing.{two-of}
use Rattle.ot_logic.proofs.Results.{bind-ok, same_Ok, unless-ok}

-- ---- objects of one kind
pub type_op-kind : (v : Object) (n : Name) → as_type_op v ≡ Ok n → kind_of v ≡ kinds.TyOp
type_op-kind (type_op m) n h = refl
type_op-kind _ n h = absurd (cc)

pub type-kind : (v : Object) (t : Ty Name) → as_type v ≡ Ok t → kind_of v ≡ kinds.Ty
type-kind (a_type u) t h = refl
type-kind _ t h = absurd (cc)

pub constant-kind : (v : Object) (n : Name) → as_constant v ≡ Ok n → kind_of v ≡ kinds.Con
constant-kind (constant m) n h = refl
constant-kind _ n h = absurd (cc)

pub variable-kind : (v : Object) (x : Variable Name) → as_variable v ≡ Ok x → kind_of v ≡ kinds.Var
variable-kind (variable y) x h = refl
variable-kind _ x h = absurd (cc)

pub term-kind : (v : Object) (t : Tm Name) → as_term v ≡ Ok t → kind_of v ≡ kinds.Tm
term-kind (term u) t h = refl
term-kind _ t h = absurd (cc)

pub list-kind : (v : Object) (os : Objects) → as_list v ≡ Ok os → kind_of v ≡ kinds.List
list-kind (list ps) os h = refl
list-kind _ os h = absurd (cc)

pub list-is : (v : Object) (os : Objects) → as_list v ≡ Ok os → v ≡ list os
list-is (list ps) os h = ap list (same_Ok ps os h)
list-is _ os h = absurd (cc)

pub name-is : (v : Object) (n : Name) → as_name v ≡ Ok n → v ≡ name n
name-is (name m) n h = ap name (same_Ok m n h)
name-is _ n h = absurd (cc)

-- a kind of which words alone make objects
abbrev pub IsOfWords : Kind → Type 0
IsOfWords kinds.Num = ⊥
IsOfWords kinds.Name = ⊥
IsOfWords kinds.Thm = ⊥
IsOfWords _ = Unit {0}

made-by : (k : Kind) → IsOfWords k → (o : Origin Name) (v : Object) → value o ≡ Ok v → kind_of v ≡ k → IsMake o
made-by k m (Make w os) v e h = tt
made-by k m (Number n) v e h = absurd (subst IsOfWords (sym h ∙ ap kind_of (sym (same_Ok (number n) v e))) m)
made-by k m (Named n) v e h = absurd (subst IsOfWords (sym h ∙ ap kind_of (sym (same_Ok (name n) v e))) m)
made-by k m (Define w os) v e h = absurd (cc)
made-by k m (Outcome j d) v e h = absurd (subst IsOfWords (sym h ∙ outcome-kind j d v e) m)

module _ {A : Type 0} (read : Object → Result A (Fault Name)) (o : Origin Name) (h : Reads read o) where
  pub has-value : HasResult (value o)
  has-value = let a = bind-ok (value o) read h.0 h.1 in (a.0, a.1)

  module _ (k : Kind) (only : (v : Object) (x : A) → read v ≡ Ok x → kind_of v ≡ k) where
    pub is-make : IsOfWords k → IsMake o
    is-make m = let a = bind-ok (value o) read h.0 h.1 in made-by k m o a.0 a.1 (only a.0 h.0 a.2)

    pub word-is : (w : Cmd) (os : Origins Name) → o ≡ Make w os → word_kind w ≡ k
    word-is w os e =
        let a = bind-ok (value o) read h.0 h.1 in
        sym (word-kind w os a.0 (sym (ap value e) ∙ a.1)) ∙ only a.0 h.0 a.2

-- ---- the words of one kind
pub type_op-word : (w : Cmd) → word_kind w ≡ kinds.TyOp → (w ≡ words.TypeOp → ⊥) → ⊥
type_op-word words.TypeOp e a = a refl
type_op-word _ e a = cc

pub constant-word : (w : Cmd) → word_kind w ≡ kinds.Con → (w ≡ words.Const → ⊥) → ⊥
constant-word words.Const e a = a refl
constant-word _ e a = cc

pub variable-word : (w : Cmd) → word_kind w ≡ kinds.Var → (w ≡ words.Var → ⊥) → ⊥
variable-word words.Var e a = a refl
variable-word _ e a = cc

pub type-word : (w : Cmd) → word_kind w ≡ kinds.Ty → (w ≡ words.VarType → ⊥) → (w ≡ words.OpType → ⊥) → ⊥
type-word words.VarType e a b = a refl
type-word words.OpType e a b = b refl
type-word _ e a b = cc

pub list-word : (w : Cmd) → word_kind w ≡ kinds.List → (w ≡ words.Nil → ⊥) → (w ≡ words.Cons → ⊥) → ⊥
list-word words.Nil e a b = a refl
list-word words.Cons e a b = b refl
list-word _ e a b = cc

pub term-word : (w : Cmd) → word_kind w ≡ kinds.Tm → (w ≡ words.VarTerm → ⊥) → (w ≡ words.ConstTerm → ⊥)
    → (w ≡ words.AppTerm → ⊥) → (w ≡ words.AbsTerm → ⊥) → ⊥
term-word words.VarTerm e a b c d = a refl
term-word words.ConstTerm e a b c d = b refl
term-word words.AppTerm e a b c d = c refl
term-word words.AbsTerm e a b c d = d refl
term-word _ e a b c d = cc

-- ---- how many operands
pub values-long : (s : Session) (is : List ℕ) (vs : List Object) → values (origins_of s is) ≡ Ok vs
    → length vs ≡ length is
values-long s [] vs h = ap length (sym (same_Ok [] vs h))
values-long s (i ∷ is) vs h =
    let (v, p, k) = bind-ok (value (origin_of s i)) _ vs h in
    let (ws, q, l) = bind-ok (values (origins_of s is)) _ vs k in
    ap length (sym (same_Ok (v ∷ ws) vs l)) ∙ ap suc (values-long s is ws q)

pub same-number : (m n : ℕ) → (m == n) ≡ true → m ≡ n
same-number m n h = grind (arith, nat_tests)

pub made-long : (s : Session) (w : Cmd) (is : List ℕ) → HasResult (value (Make w (origins_of s is)))
    → length is ≡ arity (maker w)
made-long s w is h =
    let (vs, p, k) = bind-ok (values (origins_of s is)) _ h.0 h.1 in
    let (u, q, l) = bind-ok (unless StackEmpty (length vs == arity (maker w))) _ h.0 k in
    sym (values-long s is vs p) ∙ same-number (length vs) (arity (maker w))
    (unless-ok StackEmpty (length vs == arity (maker w)) u q)

pub step-long : (s : Session) (o : Origin Name) (w : Cmd) (is : List ℕ) → o ≡ Make w (origins_of s is)
    → HasResult (value o) → length is ≡ arity (maker w)
step-long s o w is e h = made-long s w is (subst (λ p. HasResult (value p)) e h)

-- ---- the operands
pub readable : {A : Type 0} (read : Object → Result A (Fault Name)) (p : Origin Name) (x : Object) → value p ≡ Ok x
    → HasResult (read x) → Reads read p
readable read p x e h = (h.0, ap (λ r. r >>= read) e ∙ h.1)

module _ (o p : Origin Name) (h : HasResult (value o)) where
  pub type_op-takes : o ≡ make_one words.TypeOp p → Reads as_name p
  type_op-takes e =
      let a = one-made type_op_made p h.0 (sym (ap value e) ∙ h.1) in
      let b = bind-ok (as_name a.top) _ _ a.made in readable as_name p a.top a.top_is (b.0, b.1)

  pub const-takes : o ≡ make_one words.Const p → Reads as_name p
  const-takes e =
      let a = one-made const_made p h.0 (sym (ap value e) ∙ h.1) in
      let b = bind-ok (as_name a.top) _ _ a.made in readable as_name p a.top a.top_is (b.0, b.1)

  pub var_type-takes : o ≡ make_one words.VarType p → Reads as_name p
  var_type-takes e =
      let a = one-made var_type_made p h.0 (sym (ap value e) ∙ h.1) in
      let b = bind-ok (as_name a.top) _ _ a.made in readable as_name p a.top a.top_is (b.0, b.1)

  pub var_term-takes : o ≡ make_one words.VarTerm p → Reads as_variable p
  var_term-takes e =
      let a = one-made var_term_made p h.0 (sym (ap value e) ∙ h.1) in
      let b = bind-ok (as_variable a.top) _ _ a.made in readable as_variable p a.top a.top_is (b.0, b.1)

  module _ (q : Origin Name) where
    pub var-takes : o ≡ make_two words.Var p q → Reads as_name p × Reads as_type q
    var-takes e =
        let a = two-made var_made p q h.0 (sym (ap value e) ∙ h.1) in
        let b = bind-ok (as_type a.top) _ _ a.made in
        let c = bind-ok (as_name a.below) _ _ b.2 in (
          readable as_name p a.below a.below_is (c.0, c.1),
          readable as_type q a.top a.top_is (b.0, b.1),
        )

    pub op_type-takes : o ≡ make_two words.OpType p q → Reads as_type_op p × Reads (of_list (as_each as_type)) q
    op_type-takes e =
        let a = two-made op_type_made p q h.0 (sym (ap value e) ∙ h.1) in
        let b = bind-ok (as_list a.top >>= as_each as_type) _ _ a.made in
        let c = bind-ok (as_type_op a.below) _ _ b.2 in (
          readable as_type_op p a.below a.below_is (c.0, c.1),
          readable (of_list (as_each as_type)) q a.top a.top_is (b.0, b.1),
        )

    pub const_term-takes : o ≡ make_two words.ConstTerm p q → Reads as_constant p × Reads as_type q
    const_term-takes e =
        let a = two-made const_term_made p q h.0 (sym (ap value e) ∙ h.1) in
        let b = bind-ok (as_type a.top) _ _ a.made in
        let c = bind-ok (as_constant a.below) _ _ b.2 in (
          readable as_constant p a.below a.below_is (c.0, c.1),
          readable as_type q a.top a.top_is (b.0, b.1),
        )

    pub app_term-takes : o ≡ make_two words.AppTerm p q → Reads as_term p × Reads as_term q
    app_term-takes e =
        let a = two-made app_term_made p q h.0 (sym (ap value e) ∙ h.1) in
        let b = bind-ok (as_term a.top) _ _ a.made in
        let c = bind-ok (as_term a.below) _ _ b.2 in (
          readable as_term p a.below a.below_is (c.0, c.1),
          readable as_term q a.top a.top_is (b.0, b.1),
        )

    pub abs_term-takes : o ≡ make_two words.AbsTerm p q → Reads as_variable p × Reads as_term q
    abs_term-takes e =
        let a = two-made abs_term_made p q h.0 (sym (ap value e) ∙ h.1) in
        let b = bind-ok (as_term a.top) _ _ a.made in
        let c = bind-ok (as_variable a.below) _ _ b.2 in (
          readable as_variable p a.below a.below_is (c.0, c.1),
          readable as_term q a.top a.top_is (b.0, b.1),
        )

    pub cons-takes : o ≡ make_two words.Cons p q → Reads as_list q
    cons-takes e =
        let a = two-made cons_made p q h.0 (sym (ap value e) ∙ h.1) in
        let b = bind-ok (as_list a.top) _ _ a.made in readable as_list q a.top a.top_is (b.0, b.1)

-- ---- the elements of a list
pub list-of : {A : Type 0} (read : Objects → Result A (Fault Name)) (o : Origin Name) → Reads (of_list read) o
    → Reads as_list o
list-of read o h =
    let a = bind-ok (value o) (of_list read) h.0 h.1 in
    let b = bind-ok (as_list a.0) read h.0 a.2 in readable as_list o a.0 a.1 (b.0, b.1)

module _ {A : Type 0} (s : Session) (as_one : Object → Result A (Fault Name)) where
  abbrev pub IsRead : ℕ → Type 0
  IsRead i = Reads as_one (origin_of s i)

  each-read : (is : List ℕ) (vs : Objects) → AreValues (map (origin_of s) is) vs → HasResult (as_each as_one vs)
      → All IsRead is
  each-read [] vs e h = All-nil IsRead
  each-read (i ∷ is) no_objects e h = absurd e
  each-read (i ∷ is) (more_objects v vs) e h =
      let a = bind-ok (as_one v) _ _ h.1 in
      let b = bind-ok (as_each as_one vs) _ _ a.2 in
      All-cons IsRead i is (readable as_one (origin_of s i) v e.0 (a.0, a.1)) (each-read is vs e.1 (b.0, b.1))

  pub elements-read : (o : Origin Name) (steps items : List ℕ) → items ≡ steps
      → AreElementsOf o (map (origin_of s) steps) → Reads (of_list (as_each as_one)) o → All IsRead items
  elements-read o steps items same elements h =
      let a = bind-ok (value o) (of_list (as_each as_one)) h.0 h.1 in
      let b = elements.are a.0 a.1 in
      subst (All IsRead) (sym same)
      (each-read steps b.0 b.2 (h.0, sym (ap (of_list (as_each as_one)) b.1) ∙ a.2))

-- ---- a list of two
pub record AreTwoRead {A B : Type 0} (one : Object → Result A (Fault Name)) (other : Object → Result B (Fault Name))
    (v : Object) : Type 0 where
  pub first : Object
  pub second : Object
  pub is : v ≡ list (more_objects first (more_objects second no_objects))
  pub first_read : HasResult (one first)
  pub second_read : HasResult (other second)

two-is : (bad : Fault Name) (os : Objects) (p : Object × Object) → two_of bad os ≡ Ok p
    → os ≡ more_objects p.0 (more_objects p.1 no_objects)
two-is bad no_objects p h = absurd (cc)
two-is bad (more_objects x no_objects) p h = absurd (cc)
two-is bad (more_objects x (more_objects y no_objects)) p h =
    let e = same_Ok (x, y) p h in λ i. more_objects (e i).0 (more_objects (e i).1 no_objects)
two-is bad (more_objects x (more_objects y (more_objects z os))) p h = absurd (cc)

abbrev pub pair_by : {A B : Type 0} → Fault Name → (Object → Reading A) → (Object → Reading B) → Object
    → Reading (A × B)
pair_by bad one other o = do
  os ← or_bad bad (as_list o)
  pair ← two_of bad os
  x ← or_bad bad (one pair.0)
  y ← or_bad bad (other pair.1)
  Ok (x, y)

pub pair-parts : {A B : Type 0} (bad : Fault Name) (one : Object → Reading A) (other : Object → Reading B) (v : Object)
    → HasResult (pair_by bad one other v) → AreTwoRead one other v
pair-parts bad one other v h =
    let a = bind-ok (or_bad bad (as_list v)) _ _ h.1 in
    let b = bind-ok (two_of bad a.0) _ _ a.2 in
    let c = bind-ok (or_bad bad (one b.0.0)) _ _ b.2 in
    let d = bind-ok (or_bad bad (other b.0.1)) _ _ c.2 in
    record {
      first = b.0.0;
      second = b.0.1;
      is = list-is v a.0 (or_bad-is bad (as_list v) a.0 a.1) ∙ ap list (two-is bad a.0 b.0 b.1);
      first_read = (c.0, or_bad-is bad (one b.0.0) c.0 c.1);
      second_read = (d.0, or_bad-is bad (other b.0.1) d.0 d.1);
    }

types-each : (m : TypeMap names) (os : Objects) (r : TypeMap names) → types_onto m os ≡ Ok r
    → HasResult (as_each type_pair os)
types-each m no_objects r h = ([], refl)
types-each m (more_objects o os) r h =
    let a = bind-ok (type_pair o) _ _ h in
    let b = types-each (with_type m a.0.0 a.0.1) os r a.2 in (
      a.0 ∷ b.0,
      ap (λ p. p >>= λ x. as_each type_pair os >>= λ xs. Ok (x ∷ xs)) a.1
          ∙ ap (λ p. p >>= λ xs. Ok (a.0 ∷ xs)) b.1,
    )

terms-each : (m : TermMap names) (os : Objects) (r : TermMap names) → terms_onto m os ≡ Ok r
    → HasResult (as_each term_pair os)
terms-each m no_objects r h = ([], refl)
terms-each m (more_objects o os) r h =
    let a = bind-ok (term_pair o) _ _ h in
    let c = bind-ok (unless BadSubst (has_type names a.0.1 a.0.0.ty)) _ _ a.2 in
    let b = terms-each (with_term m a.0.0 a.0.1) os r c.2 in (
      a.0 ∷ b.0,
      ap (λ p. p >>= λ x. as_each term_pair os >>= λ xs. Ok (x ∷ xs)) a.1
          ∙ ap (λ p. p >>= λ xs. Ok (a.0 ∷ xs)) b.1,
    )

pub maps-two : (v : Object) → HasResult (of_list maps_of v)
    → AreTwoRead (of_list (as_each type_pair)) (of_list (as_each term_pair)) v
maps-two v h =
    let a = bind-ok (as_list v) maps_of _ h.1 in
    let b = bind-ok (two_of BadSubst a.0) _ _ a.2 in
    let c = bind-ok (or_bad BadSubst (as_list b.0.0)) _ _ b.2 in
    let d = bind-ok (or_bad BadSubst (as_list b.0.1)) _ _ c.2 in
    let e = bind-ok (types_onto [] c.0) _ _ d.2 in
    let f = bind-ok (terms_onto [] d.0) _ _ e.2 in
    let x = types-each [] c.0 e.0 e.1 in
    let y = terms-each [] d.0 f.0 f.1 in
    record {
      first = b.0.0;
      second = b.0.1;
      is = list-is v a.0 a.1 ∙ ap list (two-is BadSubst a.0 b.0 b.1);
      first_read = (
        x.0,
        ap (λ r. r >>= as_each type_pair) (or_bad-is BadSubst (as_list b.0.0) c.0 c.1) ∙ x.1,
      );
      second_read = (
        y.0,
        ap (λ r. r >>= as_each term_pair) (or_bad-is BadSubst (as_list b.0.1) d.0 d.1) ∙ y.1,
      );
    }

module _ {A B C : Type 0} (s : Session) (one : Object → Result A (Fault Name)) (other : Object → Result B (Fault Name))
    (read : Object → Result C (Fault Name)) (parts : (v : Object) → HasResult (read v) → AreTwoRead one other v)
    (step : ℕ) (h : Reads read (origin_of s step)) where
  whole : (v : Object) × (value (origin_of s step) ≡ Ok v) × AreTwoRead one other v
  whole = let a = bind-ok (value (origin_of s step)) read h.0 h.1 in (a.0, a.1, parts a.0 (h.0, a.2))

  pub is-pair : IsPair (origin_of s step)
  is-pair = record { first = whole.2.first; second = whole.2.second; is = whole.1 ∙ ap Ok whole.2.is }

  module _ (p q : ℕ) (elements : AreElementsOf (origin_of s step) (origin_of s p ∷ origin_of s q ∷ [])) where
    pub first-is : Reads one (origin_of s p)
    first-is =
        let t = two-of _ _ _ whole.0 elements whole.1 in
        let e = sym t.is ∙ whole.2.is in
        let same : t.first ≡ whole.2.first = cc in
        readable one (origin_of s p) whole.2.first (t.first_is ∙ ap Ok same) whole.2.first_read

    pub second-is : Reads other (origin_of s q)
    second-is =
        let t = two-of _ _ _ whole.0 elements whole.1 in
        let e = sym t.is ∙ whole.2.is in
        let same : t.second ≡ whole.2.second = cc in
        readable other (origin_of s q) whole.2.second (t.second_is ∙ ap Ok same) whole.2.second_read

-- the list of two has two elements
two-values : {A : Type 0} (f : A → Origin Name) (is : List A) (x y : Object)
    → AreValues (map f is) (more_objects x (more_objects y no_objects)) → length is ≡ 2
two-values f [] x y h = absurd h
two-values f (i ∷ []) x y h = absurd h.1
two-values f (i ∷ j ∷ []) x y h = refl
two-values f (i ∷ j ∷ k ∷ is) x y h = absurd h.1.1

pub pair-long : (s : Session) (o : Origin Name) (is : List ℕ) → IsPair o → AreElementsOf o (map (origin_of s) is)
    → length is ≡ 2
pair-long s o is p elements =
    let a = elements.are (list (more_objects p.first (more_objects p.second no_objects))) p.is in
    let e : more_objects p.first (more_objects p.second no_objects) ≡ a.0 = let b = a.1 in cc in
    two-values (origin_of s) is p.first p.second (subst (AreValues (map (origin_of s) is)) (sym e) a.2)

pub pair-list : (o : Origin Name) → IsPair o → Reads as_list o
pair-list o p = readable as_list o (list (more_objects p.first (more_objects p.second no_objects))) p.is
    (more_objects p.first (more_objects p.second no_objects), refl)
