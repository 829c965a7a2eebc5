-- Reading passes bytes: fewer are left where it goes on inside.
use Rattle.std.specs.Prelude.{◌≡◌, ◌≤◌, ℕ, List, length, Result, Ok, Err, IfOk}
use Rattle.std.proofs.Common.{subst, arith}
use Rattle.ot_logic.specs.Names.{Name}
use Rattle.ot_logic.specs.Trees.{Ty, Symbol}
use Rattle.ot_forms.specs.Words.{IsNotation}
use Rattle.ot_forms.specs.Meaning.{Around}
use Rattle.ot_forms.specs.Reading.{Reading, Got, operator_at}
use Rattle.ot_forms.proofs.Growing.{left, reads-shrinks}
use Rattle.ot_forms.proofs.OperatorWords.{operator-reads}
use Rattle.ot_parse.specs.declared.halt.Halt.{Halt}
use Rattle.ot_parse.specs.declared.types.Front as of_type
use Rattle.ot_parse.specs.declared.types.Front.TheVariants as type_fronts
use Rattle.ot_parse.specs.declared.terms.Front as of_term
use Rattle.ot_parse.specs.declared.terms.Front.TheVariants as term_fronts
use Rattle.ot_parse.specs.declared.terms.Back.{Back}
use Rattle.ot_parse.specs.declared.terms.Back.TheVariants as backs
use Rattle.ot_parse.specs.declared.terms.Next.{Next}
use Rattle.ot_parse.specs.declared.terms.Next.TheVariants as nexts
use Rattle.ot_parse.specs.Meant.{Meaning}
use Rattle.ot_parse.specs.Frames as types
use Rattle.ot_parse.specs.TermCode as terms

-- behind the word of a type operator no more bytes are left
pub operator-within : (hidden : List (Symbol Name)) → IsNotation hidden → (s r : List ℕ) (n : Name)
    → operator_at hidden s ≡ Got n r → length r ≤ length s
operator-within hidden nt s r n e =
    subst (λ o. length (left o) ≤ length s) e (reads-shrinks _ _ (operator_at hidden) (operator-reads hidden nt) s)

-- ---- types
pub type-leaf : (n : ℕ) (o : Reading (Ty Name)) (r : Result of_type.Front Halt) → types.IsLeafOf o r
    → IfOk r (types.OpensWithin n)
type-leaf n o (Ok (type_fronts.Leaf t q)) h = tt
type-leaf n o (Ok (type_fronts.Inside f q)) h = absurd h
type-leaf n o (Err k) h = tt

pub type-opens : (n m : ℕ) (r : Result of_type.Front Halt) → n ≤ m → IfOk r (types.OpensWithin n)
    → IfOk r (types.OpensWithin m)
type-opens n m (Ok (type_fronts.Leaf t q)) w h = tt
type-opens n m (Ok (type_fronts.Inside f q)) w h = omega arith
type-opens n m (Err k) w h = tt

-- ---- terms
pub term-leaf : (n : ℕ) (l : Around) (o : Reading Meaning) (r : Result of_term.Front Halt) → terms.IsLeaf l o r
    → IfOk r (terms.OpensWithin n)
term-leaf n l o (Ok (term_fronts.Leaf x q)) h = tt
term-leaf n l o (Ok (term_fronts.Inside f q)) h = absurd h
term-leaf n l o (Ok (term_fronts.Head f x q)) h = absurd h
term-leaf n l o (Err k) h = tt

pub term-opens : (n m : ℕ) (r : Result of_term.Front Halt) → n ≤ m → IfOk r (terms.OpensWithin n)
    → IfOk r (terms.OpensWithin m)
term-opens n m (Ok (term_fronts.Leaf x q)) w h = tt
term-opens n m (Ok (term_fronts.Inside f q)) w h = omega arith
term-opens n m (Ok (term_fronts.Head f x q)) w h = omega arith
term-opens n m (Err k) w h = tt

pub term-ends : (n m : ℕ) (r : Result Back Halt) → n ≤ m → IfOk r (terms.EndsWithin n)
    → IfOk r (terms.EndsWithin m)
term-ends n m (Ok (backs.Whole y q)) w h = omega arith
term-ends n m (Ok (backs.Further g q)) w h = omega arith
term-ends n m (Err k) w h = tt

pub term-begins : (n m : ℕ) (r : Result Next Halt) → n ≤ m → IfOk r (terms.BeginsWithin n)
    → IfOk r (terms.BeginsWithin m)
term-begins n m (Ok (nexts.Begins q)) w h = omega arith
term-begins n m (Ok (nexts.Ended x q)) w h = tt
term-begins n m (Err k) w h = tt
