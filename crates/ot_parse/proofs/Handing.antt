-- What `?` hands on, at a fact that names it.
use Rattle.std.specs.Prelude.{Result, Err, IsErrAnd, ◌≡◌}
use Rattle.std.proofs.Common.{subst, sym}
use Rattle.ot_parse.proofs.Halts.{handed-on}

-- what holds of the refusal that was met holds of what is handed on
pub handed : {A E : Type 0} (r : Result A E) (e : E) (P : Result A E → Type 0) → IsErrAnd r (λ x. x ≡ e)
    → P (Err e) → P r
handed r e P h p = subst P (sym (handed-on r e h)) p
