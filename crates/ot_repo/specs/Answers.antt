-- How the code's answers stand to the stated ones. After a read fault, and where memory ran out, the answer is open.
use Rattle.std.specs.Prelude.{◌≡◌, ℕ, List, true, map, Option, Result, Ok, Err, Vec, String, IfSome, IfErr, string_bytes}
use Rattle.std.specs.Global.{Global}
use Rattle.ot_io.specs.Causes.{CountRose}
use Rattle.ot_logic.specs.Lists.{IsMember}
use Rattle.ot_blocks.specs.Paths.{is_package}
use Rattle.ot_repo.specs.Required.{Refusal, Theory, TheoryTooLarge, IndexTooLarge}
use Rattle.ot_repo.specs.Required.{BadIndex, NotInstalled, RequiresCycle, Missing}
use Rattle.ot_repo.specs.declared.fault.RepoFault.{RepoFault}
use Rattle.ot_repo.specs.declared.fault.RepoFault.TheVariants as faults

-- the names that the code gives
abbrev pub names_of : Vec (String Global) Global → List (List ℕ)
names_of names = map string_bytes names.items

-- each is a full name
abbrev pub ArePackages : List (List ℕ) → Type 0
ArePackages names = (full : List ℕ) → IsMember full names → is_package full ≡ true

-- this refusal is the stated answer
abbrev pub Refuses : {A : Type 0} → RepoFault → Result A Refusal → Type 0
Refuses (faults.Theory path line fault) stated = stated ≡ Err (Theory (string_bytes path) line fault)
Refuses (faults.TheoryTooLarge path) stated = stated ≡ Err (TheoryTooLarge (string_bytes path))
Refuses (faults.IndexTooLarge path) stated = stated ≡ Err (IndexTooLarge (string_bytes path))
Refuses (faults.BadIndex path line) stated = stated ≡ Err (BadIndex (string_bytes path) line)
Refuses (faults.NotInstalled path line) stated = stated ≡ Err (NotInstalled (string_bytes path) line)
Refuses (faults.RequiresCycle path line) stated = stated ≡ Err (RequiresCycle (string_bytes path) line)
Refuses (faults.NoFile path) stated = stated ≡ Err (Missing (string_bytes path))
Refuses (faults.ReadFault path) stated = Unit {0}
Refuses (faults.Memory memory) stated = Unit {0}

-- what was made is what is stated
abbrev pub IsAsStated : {X A : Type 0} → (X → A) → Result X RepoFault → Result A Refusal → Type 0
IsAsStated view (Ok x) stated = stated ≡ Ok (view x)
IsAsStated view (Err e) stated = Refuses e stated

-- a missing file is counted, and so is a failure, which is one of the path that was asked for, where that is known
abbrev pub HasCause : RepoFault → ℕ → ℕ → ℕ → ℕ → Option (List ℕ) → Type 0
HasCause (faults.NoFile path) misses misses' faults faults' at = CountRose misses misses'
HasCause (faults.ReadFault path) misses misses' faults faults' at =
    CountRose faults faults' × IfSome at (λ asked. string_bytes path ≡ asked)
HasCause (faults.Theory path line fault) misses misses' faults faults' at = Unit {0}
HasCause (faults.TheoryTooLarge path) misses misses' faults faults' at = Unit {0}
HasCause (faults.IndexTooLarge path) misses misses' faults faults' at = Unit {0}
HasCause (faults.BadIndex path line) misses misses' faults faults' at = Unit {0}
HasCause (faults.NotInstalled path line) misses misses' faults faults' at = Unit {0}
HasCause (faults.RequiresCycle path line) misses misses' faults faults' at = Unit {0}
HasCause (faults.Memory memory) misses misses' faults faults' at = Unit {0}

-- no file is missing, and no read failed
abbrev pub IsOfContent : RepoFault → Type 0
IsOfContent e = (misses misses' faults faults' : ℕ) (at : Option (List ℕ)) → HasCause e misses misses' faults faults' at

-- a read fault is at such a path
abbrev pub FailsAt : (List ℕ → Type 0) → RepoFault → Type 0
FailsAt P (faults.ReadFault path) = P (string_bytes path)
FailsAt P (faults.Theory path line fault) = Unit {0}
FailsAt P (faults.TheoryTooLarge path) = Unit {0}
FailsAt P (faults.IndexTooLarge path) = Unit {0}
FailsAt P (faults.BadIndex path line) = Unit {0}
FailsAt P (faults.NotInstalled path line) = Unit {0}
FailsAt P (faults.RequiresCycle path line) = Unit {0}
FailsAt P (faults.NoFile path) = Unit {0}
FailsAt P (faults.Memory memory) = Unit {0}

-- the answer is the stated one, and a read fault is at such a path
pub record IsAnswer {X A : Type 0} (view : X → A) (Needs : List ℕ → Type 0) (result : Result X RepoFault)
    (stated : Result A Refusal) : Type 0 where
  pub gives : IsAsStated view result stated
  pub fails : IfErr result (FailsAt Needs)
