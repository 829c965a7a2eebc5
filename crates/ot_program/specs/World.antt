-- Files and standard input, and what was read of them.
use Rattle.std.specs.Prelude.{◌≡◌, ◌⊎◌, ◌++◌, ℕ, List, Bool, true, codes, Option, IfSome}
use Rattle.std.specs.Str.{bytes_eq}
use Rattle.std.specs.Io.KnownBytes.{Consumes, IsAtEnd}
use Rattle.ot_io.specs.Folder.{Folder}
use Rattle.ot_io.specs.Reading.{MayFollow}
use Rattle.ot_io.specs.Readings.{Readings, Agrees}

-- the files, and the bytes of standard input
pub record World : Type 0 where
  pub folder : Folder
  pub input : List ℕ

-- `-` is standard input; any other name is a file's
abbrev pub is_standard : List ℕ → Bool
is_standard path = bytes_eq path (codes "-")

-- what was read: of files, and of standard input, perhaps to its end
pub record WasRead : Type 0 where
  pub files : Readings
  pub input : List ℕ
  pub ended : Bool

-- a world in which this may have been read
pub record MayBe (was : WasRead) (world : World) : Type 0 where
  pub files : Agrees world.folder was.files
  pub rest : List ℕ
  pub follows : MayFollow was.ended rest
  pub input : world.input ≡ was.input ++ rest

-- of each that may be this holds
abbrev pub Every : {A : Type 0} → (May Holds : A → Type 0) → Type 0
Every {A} May Holds = (x : A) → May x → Holds x

-- any world may be
abbrev pub anywhere : World → Type 0
anywhere world = Unit {0}

-- something was read, with which files that are told agree, and which a told input lost; and of the worlds in which it
-- may have been read this is said
pub record HasReadWorld (told : Option Folder) (left left' : Option (List ℕ)) (Says : (World → Type 0) → Type 0) : Type
    0 where
  pub was : WasRead
  pub agrees : IfSome told (λ folder. Agrees folder was.files)
  pub lost : Consumes left left' was.input
  pub end : was.ended ≡ true → IsAtEnd left'
  pub says : Says (MayBe was)

-- the same of files alone
pub record HasReadFolder (told : Option Folder) (Says : (Folder → Type 0) → Type 0) : Type 0 where
  pub files : Readings
  pub agrees : IfSome told (λ folder. Agrees folder files)
  pub says : Says (λ folder. Agrees folder files)

-- this holds of the folder that is told, and of any where no file is asked for
abbrev pub EachTold : (AsksNoFile : Type 0) → Option Folder → (Holds : Option Folder → Type 0) → Type 0
EachTold AsksNoFile folder Holds = (told : Option Folder) → AsksNoFile ⊎ (told ≡ folder) → Holds told
