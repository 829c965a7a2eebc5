-- What the run of a block leaves.
use Rattle.std.specs.Prelude.{Result, Ok, Err, Vec, IsErrAnd}
use Rattle.std.specs.Global.{Global}
use Rattle.std.proofs.Common.{◌≡◌}
use Rattle.ot_kernel.specs.State as kernel
use Rattle.ot_machine.specs.Meaning.{IsRun, Grows}
use Rattle.ot_machine.specs.declared.machine.Export.{Export}
use Rattle.ot_machine.specs.declared.session.Session.{Session}
use Rattle.ot_machine.specs.declared.context.Context.{Context}
use Rattle.ot_machine.proofs.Kept.{grows-on}
use Rattle.ot_machine.proofs.Turning.{grows-same}
use Rattle.ot_link.specs.Answers.{AreExportsIn}
use Rattle.ot_link.specs.Lawful.{AreLawfulOnce, StaysLawful, IsReady, LeavesExports}
use Rattle.ot_link.proofs.Lawful.{stays-same, stays-on}

module _ {E : Type 0} {names : kernel.State → E → Type 0} where
  -- it stops
  pub left-stopped : {s t : Session} (r : Result (Vec Export Global) E) (e : E) → IsErrAnd r (λ f. f ≡ e)
      → names t.kernel e → Grows s t → IsRun t → StaysLawful s t → LeavesExports names r s t
  left-stopped (Ok x) e is says grown run lawful = absurd is
  left-stopped (Err f) e is says grown run lawful = rw is (record {
    exports = tt;
    symbols = says;
    grown = grown;
    session = run;
    lawful = lawful;
    lawful_exports = tt;
  })

  module _ {s : Session} {c : Context} (ready : IsReady s c) where
    -- it stops before anything is run
    pub left-unmoved : (r : Result (Vec Export Global) E) (e : E) → IsErrAnd r (λ f. f ≡ e) → names s.kernel e
        → LeavesExports names r s s
    left-unmoved r e is says =
        left-stopped r e is says (grows-same s) ready.session (stays-same s ready.lawful)

    -- it passes on exports
    pub left-passed : (exports : Vec Export Global) → AreExportsIn s exports → AreLawfulOnce s exports.items
        → LeavesExports names (Ok exports) s s
    left-passed exports inside once = record {
      exports = inside;
      symbols = tt;
      grown = grows-same s;
      session = ready.session;
      lawful = stays-same s ready.lawful;
      lawful_exports = once;
    }

  -- it comes behind another
  pub left-behind : {s t u : Session} {r : Result (Vec Export Global) E} → Grows s t → StaysLawful s t
      → LeavesExports names r t u → LeavesExports names r s u
  left-behind grown lawful left = record {
    exports = left.exports;
    symbols = left.symbols;
    grown = grows-on grown left.grown;
    session = left.session;
    lawful = stays-on lawful left.lawful;
    lawful_exports = left.lawful_exports;
  }
