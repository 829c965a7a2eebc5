-- What the rows do on a stack that ends with their operands.
use Rattle.std.proofs.Common.{◌≡◌, List, [], ◌∷◌, ◌++◌, None, Ok, refl, sym, ap, subst, ◌∙◌, arith}
use Rattle.std.proofs.lemmas.List.{append-nil}
use Rattle.ot_logic.specs.Names.{Name}
use Rattle.ot_logic.specs.Trees.{Tm, Sequent}
use Rattle.ot_logic.specs.Answers.{◌>>=◌}
use Rattle.ot_logic.specs.declared.command.Cmd.{Cmd}
use Rattle.ot_logic.specs.declared.command.Cmd.TheVariants as words
use Rattle.ot_trace.specs.Origins.{Named, Make, NoOrigins, MoreOrigins}
use Rattle.ot_machine.specs.Objects.{Object, Objects, list, type_op, constant, theorem, no_objects}
use Rattle.ot_machine.specs.States.{version_6, Entry, State, no_context}
use Rattle.ot_machine.specs.Places.{as_name, as_list, as_term, as_each, origins_of}
use Rattle.ot_kernel.specs.Axioms.{axiom_rule}
use Rattle.ot_machine.specs.Makers.{maker}
use Rattle.ot_machine.specs.Rows.{Row, making, given_as, nil_row, const_row, type_op_row}
use Rattle.ot_machine.specs.Step.{on_stack, word_row}
use Rattle.ot_machine.specs.Values.{value}
use Rattle.ot_article.proofs.Operands.{made_of}
use Rattle.ot_machine.specs.Lawful.{IsAxiom}
use Rattle.ot_machine.proofs.ObjectKinds.{name-is}
use Rattle.ot_article.proofs.Frames.{objects_of, entry, entry-here, object-here, dropped-here, top-here, making-here}
use Rattle.ot_article.proofs.MadeKinds.{value-name}
use Rattle.ot_logic.proofs.Results.{bind-ok}

abbrev pub with_stack : State → List Entry → State
with_stack s st = record s { article = record s.article { stack = st } }

-- the state with the stack that it has
pub same-stack : (s : State) (st : List Entry) → s.article.stack ≡ st → s ≡ with_stack s st
same-stack s st p = λ i. record s { article = record s.article { stack = p i } }

-- each origin has the object as its value
abbrev pub AreFit : List Entry → Type 0
AreFit [] = Unit {0}
AreFit (e ∷ es) = (value e.origin ≡ Ok e.object) × AreFit es

pub origin-name : (e : Entry) (n : Name) → as_name e.object ≡ Ok n → value e.origin ≡ Ok e.object → e.origin ≡ Named n
origin-name e n p q = value-name e.origin n (q ∙ ap Ok (name-is e.object n p))

stack-row : (change : List Entry → Row) (s : State) (old new : List Entry) → change old ≡ Ok new
    → on_stack change (with_stack s old) ≡ Ok (with_stack s new)
stack-row change s old new p = rw p refl

making-row : (w : Cmd) (s : State) (st es : List Entry) (v : Object) → made_of (maker w) (objects_of es) ≡ Ok v
    → on_stack (making w) (with_stack s (st ++ es)) ≡ Ok (with_stack s (st ++ entry v (Make w (origins_of es)) ∷ []))
making-row w s st es v h = stack-row (making w) s (st ++ es) (st ++ entry v (Make w (origins_of es)) ∷ [])
    (making-here w st es v h)

nil-here : (st es : List Entry) (v : Object) → made_of (maker words.Nil) (objects_of es) ≡ Ok v
    → nil_row (st ++ es) ≡ Ok (st ++ entry v (Make words.Nil (origins_of es)) ∷ [])
nil-here st [] v h = let e : list no_objects ≡ v = cc in
    ap (λ l. Ok (l ++ entry (list no_objects) (Make words.Nil NoOrigins) ∷ [])) (append-nil st)
    ∙ ap (λ x. Ok (st ++ entry x (Make words.Nil NoOrigins) ∷ [])) e
nil-here st (x ∷ es) v h = absurd (cc)

const-here : (st es : List Entry) (v : Object) → made_of (maker words.Const) (objects_of es) ≡ Ok v → AreFit es
    → const_row no_context (st ++ es) ≡ Ok (st ++ entry v (Make words.Const (origins_of es)) ∷ [])
const-here st [] v h fit = absurd (cc)
const-here st (e ∷ []) v h fit =
    let b = bind-ok (as_name e.object) (λ n. Ok (constant n)) v h in
    let o : e.origin ≡ Named b.0 = origin-name e b.0 b.1 fit.0 in
    let is : constant b.0 ≡ v = let q : Ok (constant b.0) ≡ Ok v = b.2 in cc in
    rw (object-here st (e ∷ []) 0 e (omega arith) refl, b.1, dropped-here st (e ∷ []) 1 refl)
    (λ i. Ok (st ++ entry (is i) (Make words.Const (MoreOrigins (sym o i) NoOrigins)) ∷ []))
const-here st (e ∷ d ∷ es) v h fit = absurd (cc)

type-op-here : (st es : List Entry) (v : Object) → made_of (maker words.TypeOp) (objects_of es) ≡ Ok v → AreFit es
    → type_op_row no_context (st ++ es) ≡ Ok (st ++ entry v (Make words.TypeOp (origins_of es)) ∷ [])
type-op-here st [] v h fit = absurd (cc)
type-op-here st (e ∷ []) v h fit =
    let b = bind-ok (as_name e.object) (λ n. Ok (type_op n)) v h in
    let o : e.origin ≡ Named b.0 = origin-name e b.0 b.1 fit.0 in
    let is : type_op b.0 ≡ v = let q : Ok (type_op b.0) ≡ Ok v = b.2 in cc in
    rw (object-here st (e ∷ []) 0 e (omega arith) refl, b.1, dropped-here st (e ∷ []) 1 refl)
    (λ i. Ok (st ++ entry (is i) (Make words.TypeOp (MoreOrigins (sym o i) NoOrigins)) ∷ []))
type-op-here st (e ∷ d ∷ es) v h fit = absurd (cc)

-- a word that makes an object, but an axiom
pub plain-row : (w : Cmd) (s : State) (st es : List Entry) (v : Object) → made_of (maker w) (objects_of es) ≡ Ok v
    → AreFit es → ¬ (IsAxiom (Make w (origins_of es))) → word_row version_6 no_context w (with_stack s (st ++ es))
    ≡ Ok (with_stack s (st ++ entry v (Make w (origins_of es)) ∷ []))
plain-row words.Version s st es v h fit not_axiom = absurd (cc)
plain-row words.HdTl s st es v h fit not_axiom = absurd (cc)
plain-row words.Def s st es v h fit not_axiom = absurd (cc)
plain-row words.Ref s st es v h fit not_axiom = absurd (cc)
plain-row words.Remove s st es v h fit not_axiom = absurd (cc)
plain-row words.Pop s st es v h fit not_axiom = absurd (cc)
plain-row words.Pragma s st es v h fit not_axiom = absurd (cc)
plain-row words.Thm s st es v h fit not_axiom = absurd (cc)
plain-row words.DefineConst s st es v h fit not_axiom = absurd (cc)
plain-row words.DefineConstList s st es v h fit not_axiom = absurd (cc)
plain-row words.DefineTypeOp s st es v h fit not_axiom = absurd (cc)
plain-row words.Nil s st es v h fit not_axiom =
    stack-row nil_row s (st ++ es) (st ++ entry v (Make words.Nil (origins_of es)) ∷ []) (nil-here st es v h)
plain-row words.Const s st es v h fit not_axiom = stack-row (const_row no_context) s (st ++ es)
    (st ++ entry v (Make words.Const (origins_of es)) ∷ []) (const-here st es v h fit)
plain-row words.TypeOp s st es v h fit not_axiom = stack-row (type_op_row no_context) s (st ++ es)
    (st ++ entry v (Make words.TypeOp (origins_of es)) ∷ []) (type-op-here st es v h fit)
plain-row words.Axiom s st es v h fit not_axiom = absurd (not_axiom (origins_of es, refl))
plain-row w s st es v h fit not_axiom = making-row w s st es v h

axiom-read : (s : State) (st : List Entry) (l t : Entry) (p : Tm Name) (os : Objects) (hyps : List (Tm Name))
    (q : Sequent Name) → as_term t.object ≡ Ok p → as_list l.object ≡ Ok os → as_each as_term os ≡ Ok hyps
    → axiom_rule hyps p ≡ Ok q → given_as q s.run.assumptions ≡ None
    → word_row version_6 no_context words.Axiom (with_stack s (st ++ l ∷ t ∷ []))
    ≡ Ok (record {
      article = record s.article
          { stack = st ++ entry (theorem q) (Make words.Axiom (origins_of (l ∷ t ∷ []))) ∷ [] };
      run =
          record s.run {
            assumptions = s.run.assumptions
                ++ record { sequent = q; origin = Make words.Axiom (origins_of (l ∷ t ∷ [])) } ∷ [];
          };
    })
axiom-read s st l t p os hyps q a b c rule new =
    rw (
      entry-here st (l ∷ t ∷ []) 0 t (omega arith) refl,
      a,
      entry-here st (l ∷ t ∷ []) 1 l (omega arith) refl,
      b,
      c,
      rule,
      new,
      dropped-here st (l ∷ t ∷ []) 2 refl,
      top-here st (l ∷ t ∷ []) 2 refl,
    ) refl

-- an axiom that isn't assumed yet
pub axiom-row : (s : State) (st es : List Entry) (v : Object) → made_of (maker words.Axiom) (objects_of es) ≡ Ok v
    → (q : Sequent Name) → v ≡ theorem q → given_as q s.run.assumptions ≡ None
    → word_row version_6 no_context words.Axiom (with_stack s (st ++ es))
    ≡ Ok (record {
      article = record s.article { stack = st ++ entry v (Make words.Axiom (origins_of es)) ∷ [] };
      run = record s.run {
        assumptions = s.run.assumptions
            ++ record { sequent = q; origin = Make words.Axiom (origins_of es) } ∷ [];
      };
    })
axiom-row s st [] v h q e new = absurd (cc)
axiom-row s st (l ∷ []) v h q e new = absurd (cc)
axiom-row s st (l ∷ t ∷ []) v h q e new =
    let a = bind-ok (as_term t.object) (λ p. as_list l.object >>= as_each as_term >>= λ hyps. axiom_rule hyps p
    >>= λ r. Ok (theorem r)) v h in
    let b = bind-ok (as_list l.object >>= as_each as_term) (λ hyps. axiom_rule hyps a.0 >>= λ r. Ok (theorem r)) v
    a.2 in
    let d = bind-ok (as_list l.object) (as_each as_term) b.0 b.1 in
    let c = bind-ok (axiom_rule b.0 a.0) (λ r. Ok (theorem r)) v b.2 in
    let r_is : c.0 ≡ q = let f : Ok (theorem c.0) ≡ Ok v = c.2 in let g : theorem c.0 ≡ theorem q = cc in cc in
    subst
    (λ z. word_row version_6 no_context words.Axiom (with_stack s (st ++ l ∷ t ∷ []))
    ≡ Ok (record {
      article = record s.article {
        stack = st ++ entry z (Make words.Axiom (origins_of (l ∷ t ∷ [])))
            ∷ [];
      };
      run = record s.run {
        assumptions =
            s.run.assumptions ++ record { sequent = q; origin = Make words.Axiom (origins_of (l ∷ t ∷ [])) } ∷ [];
      };
    }))
    (sym e) (axiom-read s st l t a.0 d.0 b.0 q a.1 d.1 d.2 (c.1 ∙ ap Ok r_is) new)
axiom-row s st (l ∷ t ∷ u ∷ es) v h q e new = absurd (cc)
