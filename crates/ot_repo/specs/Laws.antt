-- Laws of the packages that are required, in other words.
use Rattle.std.specs.Prelude.{◌≡◌, ◌≢◌, ◌⊎◌, ℕ, List, [], ◌∷◌, ◌++◌, length, Some, None, Ok, Err}
use Rattle.std.specs.Str.{bytes_eq}
use Rattle.ot_io.specs.Folder.{Folder}
use Rattle.ot_logic.specs.Lists.{IsMember, AreDistinct}
use Rattle.ot_theory.specs.Theory.{TagText, TheoryText}
use Rattle.ot_blocks.specs.Paths.{package_path}
use Rattle.ot_walk.specs.Walk.{TooDeep, walk_from}
use Rattle.ot_repo.specs.Required.{Refusal, NotInstalled, RequiresCycle, theory_at, requirements}
use Rattle.ot_repo.specs.Required.{index_at, index_path, picked, edges_in, edges_of, required}

-- each tag's value picks one of these packages
abbrev pub ArePicked : List (List ℕ) → List TagText → List (List ℕ) → Type 0
ArePicked listed tags order = (tag : TagText) → IsMember tag tags
    → (full : List ℕ) × (picked listed tag.value ≡ Some full) × IsMember full order

-- over these files, this limit, this folder of packages and this list of those installed
module _ (folder : Folder) (max : ℕ) (packages : List ℕ) (listed : List (List ℕ)) where
  -- a tag of one package's file picks the other package
  pub record Requires (full other : List ℕ) : Type 0 where
    pub theory : TheoryText
    pub read : theory_at folder max (package_path packages full) ≡ Ok theory
    pub tag : TagText
    pub has : IsMember tag (requirements theory)
    pub picks : picked listed tag.value ≡ Some other

  -- one of these tags picks the package, or the file of a package that is needed requires it
  pub data IsNeeded (tags : List TagText) : List ℕ → Type 0 where
    ByTag : (full : List ℕ) (tag : TagText) → IsMember tag tags → picked listed tag.value ≡ Some full
        → IsNeeded tags full
    ByPackage : (full other : List ℕ) → IsNeeded tags full → Requires full other → IsNeeded tags other

  -- a package is the other one, or requires it, perhaps by further packages
  pub data LeadsTo : List ℕ → List ℕ → Type 0 where
    Same : (full : List ℕ) → LeadsTo full full
    Along : (full middle other : List ℕ) → LeadsTo full middle → Requires middle other → LeadsTo full other

  -- the packages that these tags need: each once, behind those that its own file requires; and what stands before a
  -- tag's package is needed by that tag or by one before it
  pub record IsRequired (tags : List TagText) (order : List (List ℕ)) : Type 0 where
    pub once : AreDistinct order
    pub own : ArePicked listed tags order
    pub behind : (front back : List (List ℕ)) (full : List ℕ) → order ≡ front ++ full ∷ back →
        (t : TheoryText) × (theory_at folder max (package_path packages full) ≡ Ok t)
        × ArePicked listed (requirements t) front
    pub needed : (full : List ℕ) → IsMember full order → IsNeeded tags full
    pub in_turn : (before after : List TagText) (tag : TagText) (full : List ℕ) (front back : List (List ℕ))
        → tags ≡ before ++ tag ∷ after
        → picked listed tag.value ≡ Some full → order ≡ front ++ full ∷ back → (other : List ℕ) → IsMember other front
        → IsNeeded (before ++ tag ∷ []) other

  -- a theory file of the walk, and its tags: the first one, or that of a package that is needed
  pub data IsFile (path : List ℕ) (tags : List TagText) : List ℕ → List TagText → Type 0 where
    First : IsFile path tags path tags
    OfPackage : (full : List ℕ) (t : TheoryText) → IsNeeded tags full
        → theory_at folder max (package_path packages full) ≡ Ok t
        → IsFile path tags (package_path packages full) (requirements t)

  -- why these tags of the file of this path are refused
  pub data IsRefused (path : List ℕ) (tags : List TagText) : Refusal → Type 0 where
    -- the file of a package that is needed is refused
    BadFile : (full : List ℕ) (refusal : Refusal) → IsNeeded tags full
        → theory_at folder max (package_path packages full) ≡ Err refusal → IsRefused path tags refusal
    -- a tag picks no package
    NoPackage : (at : List ℕ) (ts : List TagText) (tag : TagText) → IsFile path tags at ts → IsMember tag ts
        → picked listed tag.value ≡ None
        → IsRefused path tags (NotInstalled at tag.line)
    -- a tag of a package's file picks a package that leads to that one
    Round : (full other : List ℕ) → IsNeeded tags full → (r : Requires full other) → LeadsTo other full
        → IsRefused path tags (RequiresCycle (package_path packages full) r.tag.line)

-- a file that the walk needs for the theory file of a path: that file; the list of installed packages, where it has a
-- tag; and the theory file of each package that is needed
pub data IsWalked (folder : Folder) (max : ℕ) (packages path : List ℕ) : List ℕ → Type 0 where
  OwnFile : IsWalked folder max packages path path
  ListFile : (t : TheoryText) → theory_at folder max path ≡ Ok t → requirements t ≢ []
      → IsWalked folder max packages path (index_path packages)
  PackageFile : (t : TheoryText) (listed : List (List ℕ)) (full : List ℕ) → theory_at folder max path ≡ Ok t
      → index_at folder (index_path packages) ≡ Ok listed
      → IsNeeded folder max packages listed (requirements t) full
      → IsWalked folder max packages path (package_path packages full)

-- what the theory file of a path requires: nothing, where it has no tag for it
pub record AreRequired (folder : Folder) (max : ℕ) (packages path : List ℕ) (order : List (List ℕ)) : Type 0 where
  pub theory : TheoryText
  pub read : theory_at folder max path ≡ Ok theory
  pub none : requirements theory ≡ [] → order ≡ []
  pub some : requirements theory ≢ [] → (listed : List (List ℕ)) × (index_at folder (index_path packages) ≡ Ok listed)
      × IsRequired folder max packages listed (requirements theory) order

-- a law: what is required
abbrev pub GivesRequired : Type 0
GivesRequired = (folder : Folder) (max : ℕ) (packages path : List ℕ) (order : List (List ℕ))
    → required folder max packages path ≡ Ok order → AreRequired folder max packages path order

-- a law: what is refused: the theory file itself, the list of installed packages, or what its tags need
abbrev pub GivesRefusal : Type 0
GivesRefusal = (folder : Folder) (max : ℕ) (packages path : List ℕ) (refusal : Refusal)
    → required folder max packages path ≡ Err refusal
    → (theory_at folder max path ≡ Err refusal)
    ⊎ ((t : TheoryText) × (theory_at folder max path ≡ Ok t) × (requirements t ≢ [])
    × ((index_at folder (index_path packages) ≡ Err refusal)
    ⊎ ((listed : List (List ℕ)) × (index_at folder (index_path packages) ≡ Ok listed)
    × IsRefused folder max packages listed path (requirements t) refusal)))

-- a law: the walk never runs out of its bound
abbrev pub RequiredEnds : Type 0
RequiredEnds = (folder : Folder) (max : ℕ) (packages path : List ℕ) (listed : List (List ℕ)) (tags : List TagText)
    → walk_from bytes_eq (edges_of folder max packages listed) (length listed) (edges_in listed path tags) ≢ TooDeep
