-- What calls leave of a session.
use Rattle.std.specs.Prelude.{◌≡◌, ◌<◌, ℕ, length, Result, IfOk, OnOk, OnErr}
use Rattle.ot_logic.specs.Names.{Name}
use Rattle.ot_logic.specs.Table.{Extends}
use Rattle.ot_trace.specs.Origins.{Origin}
use Rattle.ot_machine.specs.declared.object.Object.{Object}
use Rattle.ot_machine.specs.declared.machine.Machine.{Machine}
use Rattle.ot_machine.specs.declared.session.Session.{Session}
use Rattle.ot_machine.specs.Meaning.{object_of, lists_of, article_of, origin_of}
use Rattle.ot_machine.specs.Meaning.{run_of, IsRun, IsOf, Grows, Traces}
use Rattle.ot_machine.specs.Places.{replaced}

-- a session that grew, where what the run stands for stays
pub record Stays (old new : Session) : Type 0 where
  pub grown : Grows old new
  pub run : run_of new ≡ run_of old
  pub is_run : IsRun new

-- a session that grew, where after a refusal the run stands for what it stood for
pub record GrowsBeside {X E : Type 0} (result : Result X E) (old new : Session) : Type 0 where
  pub refused : OnErr result (run_of new ≡ run_of old)
  pub grown : Grows old new
  pub is_run : IsRun new

-- the step of an origin, where the trace alone grew
pub record MakesStep {E : Type 0} (result : Result ℕ E) (origin : Origin Name) (old new : Session) : Type 0 where
  pub made : IfOk result (λ i. origin_of new i ≡ origin)
  pub inside : IfOk result (λ i. i < length new.trace)
  pub kept : Traces old new

-- an object of an origin stands in the place of the top ones
pub record ReplacesTop {E : Type 0} (result : Result (Unit {0}) E) (count : ℕ) (o : Object) (origin : Origin Name)
    (s : Session) (m : Machine) (t : Session) (n : Machine) : Type 0 where
  pub ok : OnOk result
      (article_of t n
      ≡ (let a = article_of s m in
      record a {
        stack = replaced count (record { object = object_of s.kernel (lists_of s m) o; origin = origin }) a.stack;
      }))
  pub err : OnErr result (article_of t n ≡ article_of s m)
  pub kernel : t.kernel ≡ s.kernel
  pub run : run_of t ≡ run_of s
  pub trace : Extends s.trace t.trace
  pub of : IsOf t n
