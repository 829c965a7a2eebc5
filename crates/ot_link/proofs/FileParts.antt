-- Parts of a link that read a file.
use Rattle.std.specs.Prelude.{IsErrAnd, Option, Some, None, Result, Ok, Err, string_bytes, String}
use Rattle.std.specs.Global.{Global}
use Rattle.std.proofs.Common.{◌≡◌, ◌<◌, ◌≤◌, ◌∙◌, ℕ, List, [], ◌∷◌, length, refl, sym, ap, subst, inl, inr}
use Rattle.std.proofs.Common.{arith}
use Rattle.std.proofs.lemmas.Bool.Decides.{leb_tells}
use Rattle.ot_io.specs.Folder.{Folder, bytes_at}
use Rattle.ot_io.specs.Readings.{HasReadFiles}
use Rattle.ot_io.proofs.Readings.{Files-none}
use Rattle.ot_logic.specs.Answers.{some_or}
use Rattle.ot_logic.specs.RanOut.{ran_out}
use Rattle.ot_kernel.specs.State as kernel
use Rattle.ot_link.specs.Stops.{Stop, TooLarge, Missing, Linked, answered, answered_by, go_on, ◌>>=◌, Setting, file_at}
use Rattle.ot_link.specs.Planned.{within}
use Rattle.ot_link.specs.Link.{text_at}
use Rattle.ot_link.specs.Answers.{Stops, Comes}
use Rattle.ot_link.specs.declared.fault.LinkFault.{LinkFault}
use Rattle.ot_link.specs.declared.fault.LinkFault.TheVariants as link
use Rattle.ot_link.proofs.Parts.{stops-first}

module _ {A : Type 0} (e : Setting) (path : List ℕ) (f : List ℕ → Result A Stop) where
  -- what goes on with the bytes of a file
  abbrev pub on_file : Linked A
  on_file = file_at e path >>= λ bytes. answered (f bytes)

  -- with those that it has
  pub file-found : {X : Type 0} (k : kernel.State) (view : X → A) (r : Result X LinkFault) (bytes : List ℕ)
      → bytes_at e.folder path ≡ Some bytes → Comes k view r (answered_by path (f bytes)) → Comes k view r on_file
  file-found k view r bytes there comes =
      subst (λ o. Comes k view r (go_on (path ∷ []) (some_or (Missing path) o) (λ b. answered (f b)))) (sym there)
      comes

  pub file-missing : bytes_at e.folder path ≡ None → on_file.answer ≡ Err (Missing path)
  file-missing none =
      ap (λ o. (go_on (path ∷ []) (some_or (Missing path) o) (λ b. answered (f b))).answer) none

  -- a file that can't be read is needed
  pub file-failed : (k : kernel.State) (p : String Global) → path ≡ string_bytes p
      → Stops k (link.ReadFault p) on_file
  file-failed k p same = stops-first k (file_at e path) (λ bytes. answered (f bytes)) (link.ReadFault p) (inl same)

-- where memory ran out, whatever the files hold
pub out-of-memory : {X A : Type 0} {told : Option Folder} (k : kernel.State) (view : X → A) (r : Result X LinkFault)
    (stated : Folder → Linked A) → IsErrAnd r (λ e. e ≡ link.Memory ran_out)
    → HasReadFiles told (λ folder. Comes k view r (stated folder))
out-of-memory k view (Ok x) stated is = absurd is
out-of-memory {told = told} k view (Err e) stated is = rw is (Files-none told _ (λ folder. tt))

-- ---- the text of a theory file

module _ (e : Setting) (path bytes : List ℕ) (there : bytes_at e.folder path ≡ Some bytes) where
  abbrev max : ℕ
  max = e.limits.theory_bytes

  answer-is : (text_at e path).answer ≡ within max path bytes
  answer-is = ap (λ o. (go_on (path ∷ []) (some_or (Missing path) o) (λ b. answered (within max path b))).answer) there

  -- within the limit
  pub text-read : length bytes ≤ max → (text_at e path).answer ≡ Ok bytes
  text-read few = answer-is ∙ elim (leb_tells (length bytes) max) [
    | inl fits ↦ rw fits.0 refl
    | inr more ↦ absurd (omega (arith, few, more.1))
  ]

  pub text-large : max < length bytes → (text_at e path).answer ≡ Err (TooLarge path)
  text-large many = answer-is ∙ elim (leb_tells (length bytes) max) [
    | inl fits ↦ absurd (omega (arith, many, fits.1))
    | inr more ↦ rw more.0 refl
  ]
