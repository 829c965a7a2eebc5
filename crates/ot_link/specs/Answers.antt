-- How the code's answers stand to the stated ones. After a read fault, and where memory ran out, the answer is open.
use Rattle.std.specs.Prelude.{◌≡◌, ◌≢◌, ◌≤◌, ℕ, List, map, Option, Some, Result, Ok, Err, Vec, IfSome, string_bytes}
use Rattle.std.specs.Global.{Global}
use Rattle.std.specs.List.{All}
use Rattle.ot_logic.specs.Names.{Name}
use Rattle.ot_logic.specs.Lists.{IsMember}
use Rattle.ot_logic.specs.Faults as faults
use Rattle.ot_logic.specs.Limits.{article_limit, theory_limit, package_limit}
use Rattle.ot_logic.specs.declared.limits.Limits.{Limits}
use Rattle.ot_logic.specs.RanOut.{ran_out}
use Rattle.ot_io.specs.Causes.{CountRose}
use Rattle.ot_io.specs.Folder.{Folder}
use Rattle.ot_kernel.specs.State as kernel
use Rattle.ot_machine.specs.Faults.{fault_of}
use Rattle.ot_machine.specs.Meaning.{export_of, run_of, IsExportIn}
use Rattle.ot_machine.specs.declared.session.Session.{Session}
use Rattle.ot_machine.specs.Answers.{IsSymbolIn}
use Rattle.ot_machine.specs.States.{State}
use Rattle.ot_machine.specs.Run.{Outcome, Ended, Stopped}
use Rattle.ot_machine.specs.declared.fault.ArticleFault.{ArticleFault}
use Rattle.ot_machine.specs.declared.fault.ArticleFault.TheVariants as article
use Rattle.ot_machine.specs.declared.fault.Fault.TheVariants as machine
use Rattle.ot_machine.specs.declared.machine.Export as code
use Rattle.ot_link.specs.Stops.{InArticle, InTheory, InStructure, TooLarge, Missing, Linked, Setting}
use Rattle.ot_link.specs.Blocks.{Ran}
use Rattle.ot_link.specs.declared.setting.Setting as code_setting
use Rattle.ot_link.specs.declared.fault.LinkFault.{LinkFault}
use Rattle.ot_link.specs.declared.fault.LinkFault.TheVariants as link

-- the limits are at most those of the program
pub record AreWithin (limits : Limits) : Type 0 where
  pub article : limits.article_bytes ≤ article_limit
  pub theory : limits.theory_bytes ≤ theory_limit
  pub packages : limits.package_depth ≤ package_limit

-- what stays the same through a link, over these files
abbrev pub setting_of : Folder → code_setting.Setting → Setting
setting_of folder s = record { folder = folder; packages = s.packages.now; limits = s.limits.now }

-- the link stops with this fault, of an article by the kernel's names; a path that can't be read is one that is
-- needed
abbrev pub Stops : {A : Type 0} → kernel.State → LinkFault → Linked A → Type 0
Stops k (link.Article path line fault) l = (f : faults.Fault Name) × (fault_of (kernel.name_at k) fault ≡ Some f)
    × (l.answer ≡ Err (InArticle (string_bytes path) line f))
Stops k (link.Theory path line fault) l = l.answer ≡ Err (InTheory (string_bytes path) line fault)
Stops k (link.Structure path line fault) l = l.answer ≡ Err (InStructure (string_bytes path) line fault)
Stops k (link.TheoryTooLarge path) l = l.answer ≡ Err (TooLarge (string_bytes path))
Stops k (link.NoFile path) l = l.answer ≡ Err (Missing (string_bytes path))
Stops k (link.ReadFault path) l = IsMember (string_bytes path) l.paths
Stops k (link.Memory memory) l = Unit {0}

-- what was made is what is stated
abbrev pub Comes : {X A : Type 0} → kernel.State → (X → A) → Result X LinkFault → Linked A → Type 0
Comes k view (Ok x) l = l.answer ≡ Ok (view x)
Comes k view (Err e) l = Stops k e l

-- the exports and the run that numbers stand for
abbrev pub ran_of : Session → Vec code.Export Global → Ran
ran_of s exports = record { exports = map (export_of s) exports.items; run = run_of s }

-- what the run of an article answered, against the stated end
abbrev pub EndsAs : Session → Result (Vec code.Export Global) ArticleFault → Outcome → Type 0
EndsAs s (Ok exports) o =
    (t : State) × (o ≡ Ended t) × (ran_of s exports ≡ record { exports = t.article.exports; run = t.run })
EndsAs s (Err (article.At line fault)) o = (t : State) × (f : faults.Fault Name)
    × (fault_of (kernel.name_at s.kernel) fault ≡ Some f) × (o ≡ Stopped line f t)
EndsAs s (Err article.ReadFault) o = Unit {0}
EndsAs s (Err (article.Memory memory)) o = Unit {0}

-- the exports' numbers are of the session
abbrev pub AreExportsIn : Session → Vec code.Export Global → Type 0
AreExportsIn s exports = All (IsExportIn s) exports.items

-- the symbol that a fault names, where it names one, is of the kernel; and no article's fault is running out of memory
abbrev pub NamesSymbolIn : kernel.State → LinkFault → Type 0
NamesSymbolIn k (link.Article path line fault) = IsSymbolIn k fault × (fault ≢ machine.Memory ran_out)
NamesSymbolIn k (link.Theory path line fault) = Unit {0}
NamesSymbolIn k (link.Structure path line fault) = Unit {0}
NamesSymbolIn k (link.TheoryTooLarge path) = Unit {0}
NamesSymbolIn k (link.NoFile path) = Unit {0}
NamesSymbolIn k (link.ReadFault path) = Unit {0}
NamesSymbolIn k (link.Memory memory) = Unit {0}

-- a missing file is counted, and so is a failure, which is one of the path that was asked for, where that is known
abbrev pub HasCause : LinkFault → ℕ → ℕ → ℕ → ℕ → Option (List ℕ) → Type 0
HasCause (link.NoFile path) misses misses' faults faults' at = CountRose misses misses'
HasCause (link.ReadFault path) misses misses' faults faults' at =
    CountRose faults faults' × IfSome at (λ asked. string_bytes path ≡ asked)
HasCause (link.Article path line fault) misses misses' faults faults' at = Unit {0}
HasCause (link.Theory path line fault) misses misses' faults faults' at = Unit {0}
HasCause (link.Structure path line fault) misses misses' faults faults' at = Unit {0}
HasCause (link.TheoryTooLarge path) misses misses' faults faults' at = Unit {0}
HasCause (link.Memory memory) misses misses' faults faults' at = Unit {0}

-- a fault of the article of this path, on its own
abbrev pub IsOfArticle : List ℕ → LinkFault → Type 0
IsOfArticle path (link.Article p line fault) = string_bytes p ≡ path
IsOfArticle path (link.Theory p line fault) = ⊥
IsOfArticle path (link.Structure p line fault) = ⊥
IsOfArticle path (link.TheoryTooLarge p) = ⊥
IsOfArticle path (link.NoFile p) = ⊥
IsOfArticle path (link.ReadFault p) = string_bytes p ≡ path
IsOfArticle path (link.Memory memory) = Unit {0}

-- only a failure of the source is answered as a read fault
abbrev pub HasFailed : LinkFault → ℕ → ℕ → Type 0
HasFailed (link.Article path line fault) faults faults' = Unit {0}
HasFailed (link.Theory path line fault) faults faults' = Unit {0}
HasFailed (link.Structure path line fault) faults faults' = Unit {0}
HasFailed (link.TheoryTooLarge path) faults faults' = Unit {0}
HasFailed (link.NoFile path) faults faults' = Unit {0}
HasFailed (link.ReadFault path) faults faults' = CountRose faults faults'
HasFailed (link.Memory memory) faults faults' = Unit {0}
