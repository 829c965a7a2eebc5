-- Laws of what was read of a source.
use Rattle.std.proofs.Common.{◌≡◌, inl, inr, ℕ, nat_eq, List, [], Bool, true, sym}
use Rattle.std.proofs.lemmas.Bool.Decides.{eqb_tells}
use Rattle.std.specs.Prelude.{Option, Some, None}
use Rattle.std.specs.Io.KnownBytes.{Consumes, Keeps}
use Rattle.ot_scan.specs.Lines.{Scan}

pub Consumes-kept : (old new : Option (List ℕ)) → Keeps old new → Consumes old new []
Consumes-kept None new k = tt
Consumes-kept (Some o) None k = absurd k
Consumes-kept (Some o) (Some n) k = sym k

-- the same with other bytes held, and the end seen or not
abbrev pub with_held : Scan → List ℕ → Bool → Scan
with_held scan held ended =
    record { max = scan.max; held = held; before = scan.before; number = scan.number; ended = ended }

pub zero-where : (n : ℕ) → nat_eq n 0 ≡ true → n ≡ 0
zero-where n e = elim (eqb_tells n 0) [ inl q ↦ q.1 | inr q ↦ absurd (cc (q.0, e)) ]
