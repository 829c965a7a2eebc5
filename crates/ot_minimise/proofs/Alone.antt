-- What the minimised article does when it is run alone.
use Rattle.std.proofs.Common.{ℕ, ◌<◌, ◌≤◌, ◌^◌, List, length}
use Rattle.std.specs.Prelude.{Result, Ok, Err, OnOk}
use Rattle.ot_logic.specs.Names.{Name, same_name-Decides}
use Rattle.ot_logic.specs.Naming.{names}
use Rattle.ot_written.specs.Uses.{is_shared}
use Rattle.ot_written.specs.Laws.{SameOriginLaw, StoredEnoughLaw}
use Rattle.ot_machine.specs.States.{Export, RunState}
use Rattle.ot_article.specs.Article.{export_roots, origins_made, WrittenArticleLaw}
use Rattle.ot_write.specs.Bytes.{Writes}
use Rattle.ot_write.specs.declared.text.WriteRefusal.{WriteRefusal}
use Rattle.ot_minimise.specs.Minimised.{minimised, same, AreLawful, IsMinimised}

-- what is appended is within the limit
within : {P : Type 0} (a : Result (Unit {0}) WriteRefusal) (bytes : List ℕ) (max : ℕ) (old new : List ℕ)
    → Writes a bytes max old new → (length bytes ≤ max → P) → OnOk a P
within (Ok u) bytes max old new h f = f h.1
within (Err e) bytes max old new h f = tt

-- to store what has two uses or more is enough
pub alone : WrittenArticleLaw → SameOriginLaw Name → StoredEnoughLaw Name → (r : RunState) (es : List Export)
    → AreLawful r es → (a : Result (Unit {0}) WriteRefusal) (max : ℕ) (old new : List ℕ) → max < 2 ^ 63
    → Writes a (minimised r es) max old new → OnOk a (IsMinimised max r es (minimised r es))
alone law tells enough r es h a max old new small writes =
    within a (minimised r es) max old new writes (λ fits.
    law same (tells names.same same_name-Decides) r es (is_shared same (export_roots es) (origins_made r.definitions))
    max h.run h.exports h.stated h.apart (enough same (export_roots es) (origins_made r.definitions)).0 fits
    small)
