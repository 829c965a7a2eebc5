-- The origins of steps, by how they were made.
use Rattle.std.specs.Prelude.{◌≡◌, ℕ, List, [], ◌∷◌, slice_get, Some, Ok, pos}
use Rattle.std.specs.List.{All}
use Rattle.std.proofs.Common.{refl, sym, ap, subst, ◌∙◌}
use Rattle.std.proofs.lemmas.List.Elements.{All-head, All-tail}
use Rattle.std.proofs.lemmas.Option.{get_or_from_slice_get}
use Rattle.ot_logic.specs.declared.command.Cmd.{Cmd}
use Rattle.ot_kernel.specs.State.{name_at}
use Rattle.ot_trace.specs.Origins.{Origin, Number, Named, Make, MoreOrigins, map_origin, map_origins}
use Rattle.ot_trace.specs.Trace as trace
use Rattle.ot_trace.specs.declared.step.Step.{Step}
use Rattle.ot_trace.specs.declared.step.Step.TheVariants as step
use Rattle.ot_trace.specs.Trace.{origins_at}
use Rattle.ot_logic.specs.Names.{Name}
use Rattle.ot_machine.specs.Places.{as_name}
use Rattle.ot_machine.specs.Values.{value}
use Rattle.ot_machine.specs.Meaning.{origin_of}
use Rattle.ot_machine.proofs.WordKinds.{name-origin}
use Rattle.ot_machine.specs.declared.session.Session.{Session}
use Rattle.ot_log_values.specs.Steps.{Reads, IsMake, origins_of, IsMadeOf}
use Rattle.ot_log_values.proofs.Taking.{name-is}
use Rattle.ot_logic.proofs.Results.{bind-ok}

module _ (s : Session) where
  origins-mapped : (is : List ℕ) → map_origins (name_at s.kernel) (origins_at s.trace is) ≡ origins_of s is
  origins-mapped [] = refl
  origins-mapped (i ∷ is) = ap (MoreOrigins (origin_of s i)) (origins-mapped is)

  origin-is : (id : ℕ) (o : Origin ℕ) → slice_get s.trace id ≡ Some o
      → origin_of s id ≡ map_origin (name_at s.kernel) o
  origin-is id o at = ap (map_origin (name_at s.kernel)) (get_or_from_slice_get s.trace id o (Number (pos 0)) at)

  pub made-is : (id : ℕ) (o : Origin ℕ) (w : Cmd) (is : List ℕ) → slice_get s.trace id ≡ Some o
      → o ≡ Make w (origins_at s.trace is) → IsMadeOf s w is id
  made-is id o w is at e = origin-is id o at ∙ ap (map_origin (name_at s.kernel)) e ∙ ap (Make w) (origins-mapped is)

-- what holds of two operands
pub two-below : (P : ℕ → Type 0) (ops : List ℕ) (a b : ℕ) → All P ops → ops ≡ a ∷ b ∷ [] → P a × P b
two-below P ops a b all e =
    let h = subst (All P) e all in
    (All-head P a (b ∷ []) h, All-head P b [] (All-tail P a (b ∷ []) h))

-- ---- steps of other forms
module _ (s : Session) (id : ℕ) (ts : List (Origin ℕ)) (r : Step) (same : ts ≡ s.trace)
    (at : slice_get ts id ≡ Some (trace.origin_of ts r)) where
  step-origin : origin_of s id ≡ map_origin (name_at s.kernel) (trace.origin_of s.trace r)
  step-origin = origin-is s id (trace.origin_of s.trace r)
      (subst (λ ts. slice_get ts id ≡ Some (trace.origin_of ts r)) same at)

  pub not-make : ((w : Cmd) (ops : _) → r ≡ step.Make w ops → ⊥) → IsMake (origin_of s id) → ⊥
  not-make lacks h = other r lacks (subst IsMake step-origin h)
    where
      other : (t : Step) → ((w : Cmd) (ops : _) → t ≡ step.Make w ops → ⊥)
          → IsMake (map_origin (name_at s.kernel) (trace.origin_of s.trace t)) → ⊥
      other (step.Make w ops) lacks h = lacks w ops refl
      other (step.Number k) lacks h = h
      other (step.Name n) lacks h = h
      other (step.Define w ops syms) lacks h = h
      other (step.Outcome j d) lacks h = h

  pub not-name : ((n : ℕ) → r ≡ step.Name n → ⊥) → Reads as_name (origin_of s id) → ⊥
  not-name lacks h =
      let a = bind-ok (value (origin_of s id)) as_name h.0 h.1 in
      let e = name-origin (origin_of s id) h.0 (a.1 ∙ ap Ok (name-is a.0 h.0 a.2)) in
      other r lacks h.0 (sym step-origin ∙ e)
    where
      other : (t : Step) → ((n : ℕ) → t ≡ step.Name n → ⊥) → (n : Name)
          → map_origin (name_at s.kernel) (trace.origin_of s.trace t) ≡ Named n → ⊥
      other (step.Name m) lacks n e = lacks m refl
      other (step.Number k) lacks n e = cc
      other (step.Make w ops) lacks n e = cc
      other (step.Define w ops syms) lacks n e = cc
      other (step.Outcome j d) lacks n e = cc
