-- What the steps of the two theorems that version 5 gives a type operator are.
use Rattle.std.specs.Prelude.{◌≡◌, ◌<◌, ℕ, List, [], ◌∷◌, length, codes}
use Rattle.ot_logic.specs.Names.{Name}
use Rattle.ot_logic.specs.Naming.{names}
use Rattle.ot_logic.specs.Trees.{Ty, Tm, App, Sequent}
use Rattle.ot_logic.specs.Hol.{type_of}
use Rattle.ot_logic.specs.declared.command.Cmd.TheVariants as words
use Rattle.ot_trace.specs.Origins.{Origin, Named, Make, Outcome, NoOrigins, make_one}
use Rattle.ot_trace.specs.Origins.{make_two, type_op_origin, constant_origin}
use Rattle.ot_machine.specs.Objects.{theorem}
use Rattle.ot_machine.specs.States.{Entry}
use Rattle.ot_machine.specs.Version5.{app, lam, abs_origin, rep_origin}
use Rattle.ot_machine.specs.declared.makers.open_types.OpenConstants.{OpenConstants}
use Rattle.ot_machine.specs.declared.session.Session.{Session}
use Rattle.ot_machine.specs.Meaning.{origin_of}

-- ---- origins, over those of their parts
abbrev pub fun_origin : Origin Name → Origin Name → Origin Name
fun_origin a b = make_two words.OpType (type_op_origin (Named names.arrow))
    (make_two words.Cons a (make_two words.Cons b (Make words.Nil NoOrigins)))

abbrev pub bool_origin : Origin Name
bool_origin = make_two words.OpType (type_op_origin (Named names.bool_name)) (Make words.Nil NoOrigins)

abbrev pub constant_at : Name → Origin Name → Origin Name
constant_at n ty = make_two words.ConstTerm (constant_origin (Named n)) ty

abbrev pub variable_at : Name → Origin Name → Origin Name
variable_at n ty = make_two words.Var (Named n) ty

abbrev pub term_of : Origin Name → Origin Name
term_of = make_one words.VarTerm

-- (\v. t) x
abbrev pub redex : Origin Name → Origin Name → Origin Name → Origin Name
redex v t x = app (lam v t) x

-- f (g x)
abbrev pub composed : Origin Name → Origin Name → Origin Name → Origin Name
composed f g x = app f (app g x)

-- the theorem at a place of a definition, at x
abbrev pub outcome_at : ℕ → Origin Name → Origin Name → Origin Name
outcome_at j d x = make_two words.AppThm (Outcome j d) (make_one words.Refl x)

-- from an equation of two redexes that of what they reduce to
abbrev pub reduced : Origin Name → Origin Name → Origin Name → Origin Name
reduced e th f = make_two words.Trans (make_two words.Trans (make_one words.Sym (make_one words.BetaConv e)) th)
    (make_one words.BetaConv f)

-- abs (rep a) = a, over the constants and the new type
abbrev pub returned_origin : Origin Name → Origin Name → Origin Name → Origin Name → Origin Name
returned_origin d abs rep new =
    let v = variable_at (codes "a" ∷ []) new in
    let a = term_of v in
    reduced (redex v (composed abs rep a) a) (outcome_at 1 d a) (redex v a a)

-- p r = (rep (abs r) = r), over the constants, the equality, the predicate and the old type
abbrev pub opened_origin : Origin Name → Origin Name → Origin Name → Origin Name → Origin Name → Origin Name
    → Origin Name
opened_origin d abs rep equality p old =
    let v = variable_at (codes "r" ∷ []) old in
    let r = term_of v in
    reduced (redex v (app p r) r) (make_one words.Sym (outcome_at 2 d r))
    (redex v (app (app equality (composed rep abs r)) r) r)

-- ---- what the calls find

-- the constants between the types of these steps, and the equality of the old one
pub record AreConstants (s t : Session) (to from : Name) (old new : ℕ) (c : OpenConstants) : Type 0 where
  pub abs : origin_of t c.abs ≡ constant_at to (fun_origin (origin_of s old) (origin_of s new))
  pub rep : origin_of t c.rep ≡ constant_at from (fun_origin (origin_of s new) (origin_of s old))
  pub equality : origin_of t c.equality
      ≡ constant_at names.equals (fun_origin (origin_of s old) (fun_origin (origin_of s old) bool_origin))
  pub abs_step : c.abs < length t.trace
  pub rep_step : c.rep < length t.trace
  pub equality_step : c.equality < length t.trace

-- the origins of the two theorems, for a definition by this conclusion; a definition by another has none
abbrev pub first_origin : Origin Name → (abs rep : Name) → Ty Name → Tm Name → Origin Name
first_origin d abs rep new (App p t) = abs_origin abs rep new (type_of names t) p (Outcome 1 d)
first_origin d abs rep new _ = d

abbrev pub second_origin : Origin Name → (abs rep : Name) → Ty Name → Tm Name → Origin Name
second_origin d abs rep new (App p t) = rep_origin abs rep new (type_of names t) p (Outcome 2 d)
second_origin d abs rep new _ = d

-- the two theorems with these origins
abbrev pub open_entries : Origin Name → Origin Name → Sequent Name → Sequent Name → List Entry
open_entries o p q r = record { object = theorem q; origin = o } ∷ record { object = theorem r; origin = p } ∷ []
