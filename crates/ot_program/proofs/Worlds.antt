-- Laws of what was read of files and of standard input.
use Rattle.std.proofs.Common.{◌≡◌, ◌⊎◌, ◌∙◌, inl, inr, ◌++◌, ℕ, List, [], Bool, true, false, true≢false, sym, subst, refl}
use Rattle.std.specs.Prelude.{Option, Some, None, IfSome}
use Rattle.std.specs.Io.KnownBytes.{Consumes, IsAtEnd}
use Rattle.std.proofs.KnownBytes.{Consumes-nil}
use Rattle.ot_io.specs.Folder.{Folder}
use Rattle.ot_io.specs.Reading.{HasRead}
use Rattle.ot_io.specs.Readings.{Readings, Agrees, HasReadFiles}
use Rattle.ot_io.proofs.Readings.{Files-none, Files-then}
use Rattle.ot_program.specs.World.{World, MayBe, Every, HasReadWorld, HasReadFolder}

-- one is part of another
abbrev pub IsPart : {A : Type 0} → (Part May : A → Type 0) → Type 0
IsPart {A} Part May = (x : A) → Part x → May x

-- the folder of each world is one of these
abbrev pub HasFolders : (May : World → Type 0) → (Folders : Folder → Type 0) → Type 0
HasFolders May Folders = (world : World) → May world → Folders world.folder

-- ---- the folder that is told

-- or any, where no file is asked for: so that of the files, where one is
pub is_told : (AsksNoFile : Type 0) (folder told : Option Folder) → (AsksNoFile → ⊥) → AsksNoFile ⊎ (told ≡ folder)
    → told ≡ folder
is_told AsksNoFile folder told asks (inl none) = absurd (asks none)
is_told AsksNoFile folder told asks (inr is) = is

pub told_by : (asks : Bool) (folder told : Option Folder) → asks ≡ false → (asks ≡ true) ⊎ (told ≡ folder)
    → told ≡ folder
told_by asks folder told known (inl is) = absurd (true≢false (sym is ∙ known))
told_by asks folder told known (inr is) = is

pub files_told : (folder told : Option Folder) (Holds : Folder → Type 0) → told ≡ folder
    → HasReadFiles folder Holds → HasReadFiles told Holds
files_told folder told Holds same p = subst (λ (o : Option Folder). HasReadFiles o Holds) (sym same) p

-- behind a call that keeps the folder
pub told_behind : (AsksNoFile Behind : Type 0) (folder folder' told : Option Folder) → (AsksNoFile → Behind)
    → folder' ≡ folder → AsksNoFile ⊎ (told ≡ folder) → Behind ⊎ (told ≡ folder')
told_behind AsksNoFile Behind folder folder' told to same (inl none) = inl (to none)
told_behind AsksNoFile Behind folder folder' told to same (inr is) = inr (is ∙ sym same)

-- ---- files

-- what is said of every folder that agrees with what was read
pub folder_of : (told : Option Folder) (Holds : Folder → Type 0) (Says : (Folder → Type 0) → Type 0)
    → ((May : Folder → Type 0) → Every May Holds → Says May) → HasReadFiles told Holds → HasReadFolder told Says
folder_of told Holds Says to p = record {
  files = p.readings;
  agrees = p.agrees;
  says = to (λ folder. Agrees folder p.readings) p.holds;
}

pub folder_map : (told : Option Folder) (P Q : (Folder → Type 0) → Type 0)
    → ((May : Folder → Type 0) → P May → Q May) → HasReadFolder told P → HasReadFolder told Q
folder_map told P Q to p = record {
  files = p.files;
  agrees = p.agrees;
  says = to (λ folder. Agrees folder p.files) p.says;
}

-- where no file was asked for
pub folder_none : (told : Option Folder) (Says : (Folder → Type 0) → Type 0)
    → ((May : Folder → Type 0) → Says May) → HasReadFolder told Says
folder_none told Says all = folder_of told (λ folder. Unit {0}) Says (λ May h. all May) (Files-none told _ (λ f. tt))

-- what two calls read, one after the other
record ReadBoth (told : Option Folder) (xs ys : Readings) : Type 0 where
  files : Readings
  agrees : IfSome told (λ folder. Agrees folder files)
  first : (folder : Folder) → Agrees folder files → Agrees folder xs
  second : (folder : Folder) → Agrees folder files → Agrees folder ys

read_both : (told : Option Folder) (xs ys : Readings) → IfSome told (λ folder. Agrees folder xs)
    → IfSome told (λ folder. Agrees folder ys) → ReadBoth told xs ys
read_both told xs ys a b =
    let p : HasReadFiles told (λ folder. Agrees folder xs) =
    record { readings = xs; agrees = a; holds = λ folder h. h } in
    let q : HasReadFiles told (λ folder. Agrees folder ys) =
    record { readings = ys; agrees = b; holds = λ folder h. h } in
    let r : HasReadFiles told (λ folder. Agrees folder xs × Agrees folder ys) =
    Files-then told _ _ _ (λ folder h k. (h, k)) p q in
    record {
      files = r.readings;
      agrees = r.agrees;
      first = λ folder h. (r.holds folder h).0;
      second = λ folder h. (r.holds folder h).1;
    }

pub folder_then : (told : Option Folder) (P Q R : (Folder → Type 0) → Type 0)
    → ((May Before Behind : Folder → Type 0) → IsPart May Before → IsPart May Behind → P Before → Q Behind → R May)
    → HasReadFolder told P → HasReadFolder told Q → HasReadFolder told R
folder_then told P Q R both p q =
    let r = read_both told p.files q.files p.agrees q.agrees in
    record {
      files = r.files;
      agrees = r.agrees;
      says = both _ _ _ r.first r.second p.says q.says;
    }

-- ---- files and standard input

pub world_map : (told : Option Folder) (left left' : Option (List ℕ)) (P Q : (World → Type 0) → Type 0)
    → ((May : World → Type 0) → P May → Q May) → HasReadWorld told left left' P → HasReadWorld told left left' Q
world_map told left left' P Q to p = record {
  was = p.was;
  agrees = p.agrees;
  lost = p.lost;
  end = p.end;
  says = to (MayBe p.was) p.says;
}

-- nothing was read
pub world_none : (told : Option Folder) (left : Option (List ℕ)) (Says : (World → Type 0) → Type 0)
    → ((May : World → Type 0) → Says May) → HasReadWorld told left left Says
world_none told left Says all =
    let p = folder_none told (λ May. Unit {0}) (λ May. tt) in
    record {
      was = record { files = p.files; input = []; ended = false };
      agrees = p.agrees;
      lost = Consumes-nil left;
      end = λ e. absurd cc;
      says = all _;
    }

-- of standard input alone
pub world_of_input : (told : Option Folder) (left left' : Option (List ℕ)) (E : Type 0) (P : List ℕ → Type 0)
    (Says : (World → Type 0) → Type 0)
    → ((May : World → Type 0) → Every May (λ world. P world.input) → Says May)
    → HasRead left left' E (λ bytes rest. P bytes) → HasReadWorld told left left' Says
world_of_input told left left' E P Says to h =
    let p = folder_none told (λ May. Unit {0}) (λ May. tt) in
    record {
      was = record { files = p.files; input = h.reads.read; ended = h.ended };
      agrees = p.agrees;
      lost = h.reads.lost;
      end = h.reads.end (λ e. absurd cc);
      says = to _ (λ world may. subst P (sym may.input) (h.reads.holds may.rest may.follows));
    }

-- of files alone
pub world_of_folder : (told : Option Folder) (left : Option (List ℕ)) (P : (Folder → Type 0) → Type 0)
    (Says : (World → Type 0) → Type 0)
    → ((May : World → Type 0) (Folders : Folder → Type 0) → HasFolders May Folders → P Folders → Says May)
    → HasReadFolder told P → HasReadWorld told left left Says
world_of_folder told left P Says to p = record {
  was = record { files = p.files; input = []; ended = false };
  agrees = p.agrees;
  lost = Consumes-nil left;
  end = λ e. absurd cc;
  says = to _ _ (λ world may. may.files) p.says;
}

pub world_of_files : (told : Option Folder) (left : Option (List ℕ)) (Holds : Folder → Type 0)
    (Says : (World → Type 0) → Type 0)
    → ((May : World → Type 0) → Every May (λ world. Holds world.folder) → Says May)
    → HasReadFiles told Holds → HasReadWorld told left left Says
world_of_files told left Holds Says to p =
    world_of_folder told left (λ Folders. Every Folders Holds) Says
    (λ May Folders has holds. to May (λ world may. holds world.folder (has world may)))
    (folder_of told Holds (λ Folders. Every Folders Holds) (λ May h. h) p)

-- files were read first
pub folder_then_world : (told : Option Folder) (left left' : Option (List ℕ)) (P : (Folder → Type 0) → Type 0)
    (Q R : (World → Type 0) → Type 0)
    → ((May : World → Type 0) (Folders : Folder → Type 0) (Behind : World → Type 0) → HasFolders May Folders
    → IsPart May Behind → P Folders → Q Behind → R May)
    → HasReadFolder told P → HasReadWorld told left left' Q → HasReadWorld told left left' R
folder_then_world told left left' P Q R both p q =
    let r = read_both told p.files q.was.files p.agrees q.agrees in
    record {
      was = record { files = r.files; input = q.was.input; ended = q.was.ended };
      agrees = r.agrees;
      lost = q.lost;
      end = q.end;
      says = both _ _ _ (λ world may. r.first world.folder may.files)
          (λ world may. record {
            files = r.second world.folder may.files;
            rest = may.rest;
            follows = may.follows;
            input = may.input;
          })
          p.says q.says;
    }

-- or behind
pub world_then_folder : (told : Option Folder) (left left' : Option (List ℕ)) (P : (World → Type 0) → Type 0)
    (Q : (Folder → Type 0) → Type 0) (R : (World → Type 0) → Type 0)
    → ((May Before : World → Type 0) (Folders : Folder → Type 0) → IsPart May Before → HasFolders May Folders
    → P Before → Q Folders → R May)
    → HasReadWorld told left left' P → HasReadFolder told Q → HasReadWorld told left left' R
world_then_folder told left left' P Q R both p q =
    let r = read_both told p.was.files q.files p.agrees q.agrees in
    record {
      was = record { files = r.files; input = p.was.input; ended = p.was.ended };
      agrees = r.agrees;
      lost = p.lost;
      end = p.end;
      says = both _ _ _
          (λ world may. record {
            files = r.first world.folder may.files;
            rest = may.rest;
            follows = may.follows;
            input = may.input;
          })
          (λ world may. r.second world.folder may.files) p.says q.says;
    }

-- ---- devices that tell

-- what is said holds of the world that is told
pub world_told : (folder : Folder) (input : List ℕ) (left' : Option (List ℕ)) (Holds : World → Type 0)
    → HasReadWorld (Some folder) (Some input) left' (λ May. Every May Holds)
    → Holds (record { folder = folder; input = input })
world_told folder input None Holds p = absurd p.lost
world_told folder input (Some rest) Holds p =
    p.says _ (record { files = p.agrees; rest = rest; follows = λ e. p.end e; input = p.lost })
