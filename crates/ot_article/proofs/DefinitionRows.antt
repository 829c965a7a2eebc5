-- What the definition rows do on a stack that ends with their operands.
use Rattle.std.proofs.Common.{◌≡◌, List, [], ◌∷◌, ◌++◌, length, map, Ok, refl, sym, subst, ◌∙◌, arith}
use Rattle.std.specs.List.{list_all}
use Rattle.ot_logic.specs.Names.{Name}
use Rattle.ot_logic.specs.Naming.{names}
use Rattle.ot_logic.specs.Trees.{Variable, Tm, App, Sequent, Definition, ConDef, ListDef, TyDef}
use Rattle.ot_logic.specs.Hol.{is_shallow_sequent, theorems, theorems_at}
use Rattle.ot_logic.specs.Faults.{Fault, NotApplication, HypothesesPresent, Nesting}
use Rattle.ot_logic.specs.Answers.{◌>>=◌, some_or, unless}
use Rattle.ot_logic.specs.declared.command.Cmd.{Cmd}
use Rattle.ot_logic.specs.declared.command.Cmd.TheVariants as words
use Rattle.ot_trace.specs.Origins.{Origin, Named, Make, Define, NoOrigins, MoreOrigins, renamed_first, renamed_pairs}
use Rattle.ot_interp.specs.Interpretation.{renamed}
use Rattle.ot_machine.specs.Objects.{Objects}
use Rattle.ot_machine.specs.States.{version_6, Entry, State, no_context}
use Rattle.ot_machine.specs.Places.{as_name, as_list, as_term, as_theorem, as_each, origins_of}
use Rattle.ot_laws.specs.Conditions.{function_of, checked_const, checked_list, checked_type, is_empty}
use Rattle.ot_kernel.specs.Defining.{const_definition, list_definition, type_definition}
use Rattle.ot_kernel.specs.Defining.{limited_definition, all_defined, all_used, zipped}
use Rattle.ot_machine.specs.DefinitionLists.{pairs_of}
use Rattle.ot_machine.specs.Rows.{theorem_entries, definitions_of, constant_entry, type_op_entry, constants_entry}
use Rattle.ot_machine.specs.Step.{word_row}
use Rattle.ot_article.proofs.Operands.{const_given, list_given, type_given, given_by}
use Rattle.ot_written.specs.Written.{theorem_count, symbol_count}
use Rattle.ot_article.proofs.Frames.{objects_of, entry-here, dropped-here}
use Rattle.ot_article.proofs.RowsHere.{with_stack, AreFit, origin-name}
use Rattle.ot_logic.proofs.Results.{bind-ok}

-- ---- how many theorems a definition has

limited-is : (d x : Definition Name) → limited_definition names d ≡ Ok x → d ≡ x
limited-is d x h = let b = bind-ok (unless Nesting (list_all (is_shallow_sequent names) (theorems names d)))
    (λ _. Ok d) x h in let e : Ok d ≡ Ok x = b.2 in cc

two-there : (n abs rep : Name) (vs : List Name) (c p : Tm Name)
    → some_or {E = Fault Name} NotApplication (function_of c) ≡ Ok p → length (theorems_at names n abs rep vs c) ≡ 2
two-there n abs rep vs (App f x) p h = refl
two-there n abs rep vs _ p h = absurd (cc)

const-count : (ds : List (Definition Name)) (n : Name) (t : Tm Name) (x : Definition Name)
    → const_definition names ds n t ≡ Ok x → length (theorems names x) ≡ 1
const-count ds n t x h =
    let b = bind-ok (checked_const names (all_defined names ds) (all_used names ds) n t)
    (λ _. limited_definition names (ConDef n t)) x h in
    subst (λ z. length (theorems names z) ≡ 1) (limited-is (ConDef n t) x b.2) refl

list-count : (ds : List (Definition Name)) (ns : List Name) (vs : List (Variable Name)) (q : Sequent Name)
    (x : Definition Name) → list_definition names ds ns vs q ≡ Ok x → length (theorems names x) ≡ 1
list-count ds ns vs q x h =
    let b = bind-ok (checked_list names (all_defined names ds) (all_used names ds) ns vs q)
    (λ _. Ok (ListDef (zipped names ns vs) q)) x h in
    let e : ListDef (zipped names ns vs) q ≡ x = let f : Ok (ListDef (zipped names ns vs) q) ≡ Ok x = b.2 in cc in
    subst (λ z. length (theorems names z) ≡ 1) e refl

type-count : (ds : List (Definition Name)) (n abs rep : Name) (vs : List Name) (q : Sequent Name)
    (x : Definition Name) → type_definition names ds n abs rep vs q ≡ Ok x → length (theorems names x) ≡ 2
type-count ds n abs rep vs q x h =
    let b = bind-ok (checked_type names (all_defined names ds) (all_used names ds) n abs rep vs q)
    (λ _. limited_definition names (TyDef n abs rep vs q)) x h in
    let c = bind-ok (unless HypothesesPresent (is_empty q.hyps)) _ b.0 b.1 in
    let d = bind-ok (some_or {E = Fault Name} NotApplication (function_of q.concl)) _ b.0 c.2 in
    subst (λ z. length (theorems names z) ≡ 2) (limited-is (TyDef n abs rep vs q) x b.2)
    (two-there n abs rep vs q.concl d.0 d.1)

-- ---- names of symbols stay

same-first : (o : Origin Name) → renamed_first (renamed names []) o ≡ o
same-first (Make words.Cons (MoreOrigins (Named n) rest)) = refl
same-first _ = refl

same-pairs : (o : Origin Name) → renamed_pairs (renamed names []) o ≡ o
same-pairs (Make words.Cons (MoreOrigins pair (MoreOrigins tail NoOrigins))) =
    λ i. Make words.Cons (MoreOrigins (same-first pair i) (MoreOrigins (same-pairs tail i) NoOrigins))
same-pairs _ = refl

-- ---- the rows

-- a definition at the end of the run, and its symbols and theorems in the place of its operands
abbrev pub with_definition : State → List Entry → List Entry → Origin Name → Definition Name → State
with_definition s st symbols d x = record {
  article = record s.article { stack = st ++ (symbols ++ theorem_entries d 0 (theorems names x)) };
  run = record s.run { definitions = s.run.definitions ++ record { definition = x; origin = d } ∷ [] };
}

const-read : (s : State) (st : List Entry) (e t : Entry) (n : Name) (p : Tm Name) (x : Definition Name)
    → as_term t.object ≡ Ok p → as_name e.object ≡ Ok n
    → const_definition names (definitions_of s.run.definitions) n p ≡ Ok x
    → word_row version_6 no_context words.DefineConst (with_stack s (st ++ e ∷ t ∷ []))
    ≡ Ok (with_definition s st (constant_entry n ∷ [])
    (Define words.DefineConst (MoreOrigins (Named n) (MoreOrigins t.origin NoOrigins))) x)
const-read s st e t n p x a b rule =
    rw (
      entry-here st (e ∷ t ∷ []) 0 t (omega arith) refl,
      a,
      entry-here st (e ∷ t ∷ []) 1 e (omega arith) refl,
      b,
      rule,
      dropped-here st (e ∷ t ∷ []) 2 refl,
    ) refl

list-read : (s : State) (st : List Entry) (l t : Entry) (os : Objects) (pairs : List (Name × Variable Name))
    (q : Sequent Name) (x : Definition Name) → as_theorem t.object ≡ Ok q → as_list l.object ≡ Ok os
    → pairs_of os ≡ Ok pairs
    → list_definition names (definitions_of s.run.definitions) (map (λ p. p.0) pairs) (map (λ p. p.1) pairs) q ≡ Ok x
    → word_row version_6 no_context words.DefineConstList (with_stack s (st ++ l ∷ t ∷ []))
    ≡ Ok (with_definition s st (constants_entry (map (λ p. p.0) pairs) ∷ [])
    (Define words.DefineConstList
    (MoreOrigins (renamed_pairs (renamed names []) l.origin) (MoreOrigins t.origin NoOrigins))) x)
list-read s st l t os pairs q x a b c rule =
    rw (
      entry-here st (l ∷ t ∷ []) 0 t (omega arith) refl,
      a,
      entry-here st (l ∷ t ∷ []) 1 l (omega arith) refl,
      b,
      c,
      rule,
      dropped-here st (l ∷ t ∷ []) 2 refl,
    ) refl

type-read : (s : State) (st : List Entry) (en ea er ev et : Entry) (n a r : Name) (vs : List Name) (q : Sequent Name)
    (x : Definition Name) → as_theorem et.object ≡ Ok q → (as_list ev.object >>= as_each as_name) ≡ Ok vs
    → as_name er.object ≡ Ok r → as_name ea.object ≡ Ok a → as_name en.object ≡ Ok n
    → type_definition names (definitions_of s.run.definitions) n a r vs q ≡ Ok x
    → word_row version_6 no_context words.DefineTypeOp (with_stack s (st ++ en ∷ ea ∷ er ∷ ev ∷ et ∷ []))
    ≡ Ok (with_definition s st (type_op_entry n ∷ constant_entry a ∷ constant_entry r ∷ [])
    (Define words.DefineTypeOp
    (MoreOrigins (Named n)
    (MoreOrigins (Named a) (MoreOrigins (Named r) (MoreOrigins ev.origin (MoreOrigins et.origin NoOrigins)))))) x)
type-read s st en ea er ev et n a r vs q x h0 h1 h2 h3 h4 rule =
    let es : List Entry = en ∷ ea ∷ er ∷ ev ∷ et ∷ [] in
    rw (
      entry-here st es 0 et (omega arith) refl,
      h0,
      entry-here st es 1 ev (omega arith) refl,
      h1,
      entry-here st es 2
          er (omega arith) refl,
      h2,
      entry-here st es 3 ea (omega arith) refl,
      h3,
      entry-here st es 4 en (omega arith)
          refl,
      h4,
      rule,
      dropped-here st es 5 refl,
    ) refl

-- what a definition word does
pub record Defines (w : Cmd) (s : State) (st es : List Entry) (x : Definition Name) : Type 0 where
  pub symbols : List Entry
  pub wide : length symbols ≡ symbol_count w
  pub long : length (theorems names x) ≡ theorem_count w
  pub row : word_row version_6 no_context w (with_stack s (st ++ es))
      ≡ Ok (with_definition s st symbols (Define w (origins_of es)) x)

const-defines : (s : State) (st es : List Entry) (x : Definition Name)
    → const_given (definitions_of s.run.definitions) (objects_of es) ≡ Ok x → AreFit es
    → Defines words.DefineConst s st es x
const-defines s st [] x h fit = absurd (cc)
const-defines s st (e ∷ []) x h fit = absurd (cc)
const-defines s st (e ∷ t ∷ []) x h fit =
    let ds : List (Definition Name) = definitions_of s.run.definitions in
    let a = bind-ok (as_term t.object) (λ p. as_name e.object >>= λ m. const_definition names ds m p) x h in
    let b = bind-ok (as_name e.object) (λ m. const_definition names ds m a.0) x a.2 in
    let o : e.origin ≡ Named b.0 = origin-name e b.0 b.1 fit.0 in
    record {
      symbols = constant_entry b.0 ∷ [];
      wide = refl;
      long = const-count ds b.0 a.0 x b.2;
      row = const-read s st e t b.0 a.0 x a.1 b.1 b.2
          ∙ (λ i. Ok (with_definition s st (constant_entry b.0 ∷ [])
          (Define words.DefineConst (MoreOrigins (sym o i) (MoreOrigins t.origin NoOrigins))) x));
    }
const-defines s st (e ∷ t ∷ u ∷ es) x h fit = absurd (cc)

list-defines : (s : State) (st es : List Entry) (x : Definition Name) → list_given (definitions_of s.run.definitions)
    (objects_of es) ≡ Ok x → AreFit es → Defines words.DefineConstList s st es x
list-defines s st [] x h fit = absurd (cc)
list-defines s st (e ∷ []) x h fit = absurd (cc)
list-defines s st (l ∷ t ∷ []) x h fit =
    let ds : List (Definition Name) = definitions_of s.run.definitions in
    let a = bind-ok (as_theorem t.object) (λ q. as_list l.object >>= λ os. pairs_of os
    >>= λ pairs. list_definition names ds (map (λ p. p.0) pairs) (map (λ p. p.1) pairs) q) x h in
    let b = bind-ok (as_list l.object) (λ os. pairs_of os >>= λ pairs. list_definition names ds (map (λ p. p.0) pairs)
    (map (λ p. p.1) pairs) a.0) x a.2 in
    let c = bind-ok (pairs_of b.0)
    (λ pairs. list_definition names ds (map (λ p. p.0) pairs) (map (λ p. p.1) pairs) a.0) x b.2 in
    let o = same-pairs l.origin in
    let symbols : List Entry = constants_entry (map (λ p. p.0) c.0) ∷ [] in
    record {
      symbols = symbols;
      wide = refl;
      long = list-count ds (map (λ p. p.0) c.0) (map (λ p. p.1) c.0) a.0 x c.2;
      row = list-read s st l t b.0 c.0 a.0 x a.1 b.1 c.1 c.2
          ∙ (λ i. Ok (with_definition s st symbols
          (Define words.DefineConstList (MoreOrigins (o i) (MoreOrigins t.origin NoOrigins))) x));
    }
list-defines s st (e ∷ t ∷ u ∷ es) x h fit = absurd (cc)

type-defines : (s : State) (st es : List Entry) (x : Definition Name) → type_given (definitions_of s.run.definitions)
    (objects_of es) ≡ Ok x → AreFit es → Defines words.DefineTypeOp s st es x
type-defines s st [] x h fit = absurd (cc)
type-defines s st (en ∷ []) x h fit = absurd (cc)
type-defines s st (en ∷ ea ∷ []) x h fit = absurd (cc)
type-defines s st (en ∷ ea ∷ er ∷ []) x h fit = absurd (cc)
type-defines s st (en ∷ ea ∷ er ∷ ev ∷ []) x h fit = absurd (cc)
type-defines s st (en ∷ ea ∷ er ∷ ev ∷ et ∷ []) x h fit =
    let ds : List (Definition Name) = definitions_of s.run.definitions in
    let a = bind-ok (as_theorem et.object) (λ q. as_list ev.object >>= as_each as_name >>= λ vs. as_name er.object
    >>= λ r. as_name ea.object >>= λ k. as_name en.object >>= λ m. type_definition names ds m k r vs q) x h in
    let b = bind-ok (as_list ev.object >>= as_each as_name) (λ vs. as_name er.object >>= λ r. as_name ea.object
    >>= λ k. as_name en.object >>= λ m. type_definition names ds m k r vs a.0) x a.2 in
    let c = bind-ok (as_name er.object)
    (λ r. as_name ea.object >>= λ k. as_name en.object >>= λ m. type_definition names ds m k r b.0 a.0) x b.2 in
    let d = bind-ok (as_name ea.object) (λ k. as_name en.object >>= λ m. type_definition names ds m k c.0 b.0 a.0) x
    c.2 in
    let f = bind-ok (as_name en.object) (λ m. type_definition names ds m d.0 c.0 b.0 a.0) x d.2 in
    let on : en.origin ≡ Named f.0 = origin-name en f.0 f.1 fit.0 in
    let oa : ea.origin ≡ Named d.0 = origin-name ea d.0 d.1 fit.1.0 in
    let or : er.origin ≡ Named c.0 = origin-name er c.0 c.1 fit.1.1.0 in
    let symbols : List Entry = type_op_entry f.0 ∷ constant_entry d.0 ∷ constant_entry c.0 ∷ [] in
    record {
      symbols = symbols;
      wide = refl;
      long = type-count ds f.0 d.0 c.0 b.0 a.0 x f.2;
      row = type-read s st en ea er ev et f.0 d.0 c.0 b.0 a.0 x a.1 b.1 c.1 d.1 f.1 f.2
          ∙ (λ i. Ok
          (with_definition s st symbols
          (Define words.DefineTypeOp
          (MoreOrigins (sym on i)
          (MoreOrigins (sym oa i)
          (MoreOrigins (sym or i) (MoreOrigins ev.origin (MoreOrigins et.origin NoOrigins)))))) x));
    }
type-defines s st (en ∷ ea ∷ er ∷ ev ∷ et ∷ u ∷ es) x h fit = absurd (cc)

pub defines : (w : Cmd) (s : State) (st es : List Entry) (x : Definition Name)
    → given_by w (definitions_of s.run.definitions) (objects_of es) ≡ Ok x → AreFit es → Defines w s st es x
defines words.DefineConst s st es x h fit = const-defines s st es x h fit
defines words.DefineConstList s st es x h fit = list-defines s st es x h fit
defines words.DefineTypeOp s st es x h fit = type-defines s st es x h fit
defines _ s st es x h fit = absurd (cc)
