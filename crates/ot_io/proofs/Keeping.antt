-- Laws of what reading leaves of a source.
use Rattle.std.proofs.Common.{◌∙◌, ℕ, List, arith}
use Rattle.std.specs.Prelude.{Option}
use Rattle.ot_io.specs.Folder.{Folder}
use Rattle.ot_io.specs.Keeping.{KeepsSource, KeepsFiles}

pub KeepsSource-then : {S : Type 0} {folder : S → Option Folder} {faults misses : S → ℕ}
    {at : S → Option (List ℕ)} {old mid new : S} → KeepsSource folder faults misses at old mid
    → KeepsSource folder faults misses at mid new → KeepsSource folder faults misses at old new
KeepsSource-then a b = record {
  same_folder = b.same_folder ∙ a.same_folder;
  same_misses = b.same_misses ∙ a.same_misses;
  same_at = b.same_at ∙ a.same_at;
  later = omega (arith, a.later, b.later);
}

pub KeepsFiles-then : {F : Type 0} {folder : F → Option Folder} {faults misses : F → ℕ} {old mid new : F}
    → KeepsFiles folder faults misses old mid → KeepsFiles folder faults misses mid new
    → KeepsFiles folder faults misses old new
KeepsFiles-then a b = record {
  same_folder = b.same_folder ∙ a.same_folder;
  later = omega (arith, a.later, b.later);
  later_misses = omega (arith, a.later_misses, b.later_misses);
}
