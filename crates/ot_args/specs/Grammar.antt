-- The grammar of the command's words: a command's word, then its options in any order and each at most once, then its
-- operands.
--
--   check [--packages DIR] INPUT
--   info [--assumptions] [--definitions] [--theorems] [--packages DIR] INPUT
--   info --uses [--packages DIR] INPUT
--   info --readable [--packages DIR] INPUT
--   link [--packages DIR] FILE
--   minimise [--packages DIR] INPUT
--   sample [--article] N
--   read [--packages DIR] INPUT TEXT
--   prove [--packages DIR] INPUT
--   verify LOG
--   find [--packages DIR] PATTERN INPUT
--
-- The operands begin at the first word that names no option. DIR isn't empty; without it the folder is `packages`.
-- Where `info` names no section, it asks for all three; `--uses` and `--readable` stand beside no section, nor beside
-- each other. INPUT and LOG are `-`, or a name that doesn't begin with `-` and isn't empty; an INPUT that ends in
-- `.thy` is a theory file's name, and FILE is such an INPUT. TEXT and PATTERN don't begin with `-` and aren't empty.
-- N is a number from 1 to 1,000 in decimal, without sign or leading zero.
use Rattle.std.specs.Prelude.{◌≡◌, ◌≤◌, ◌↔◌, ℕ, zero, suc, Bool, true, false, not, ◌&&◌}
use Rattle.std.specs.Prelude.{◌||◌, List, [], ◌∷◌, ◌++◌, map, codes, decimal, nat_eq, String}
use Rattle.std.specs.Prelude.{Option, None, Some, unwrap_or, Result, Ok, Err, if◌then◌else◌}
use Rattle.std.specs.Global.{Global}
use Rattle.std.specs.Option.{option_map, option_and_then}
use Rattle.std.specs.List.{list_all, list_any, starts_with, ends_with}
use Rattle.std.specs.Str.{bytes_eq}
use Rattle.std.specs.String.{string_bytes}
use Rattle.ot_args.specs.declared.command.Command.{Command}
use Rattle.ot_args.specs.declared.command.Command.TheVariants as code
use Rattle.ot_args.specs.declared.command.Usage.{Usage}
use Rattle.ot_args.specs.declared.sections.Sections.{Sections}
use Rattle.ot_args.specs.declared.verb.Verb.{Verb}
use Rattle.ot_args.specs.declared.verb.Verb.TheVariants as verb

-- an option, with its value where it has one: the folder of the packages, a section of the summary, what theorems
-- rest on, readable text, or the sample's article
pub data OptionValue : Type 0 where
  Packages : List ℕ → OptionValue
  Assumptions : OptionValue
  Definitions : OptionValue
  Theorems : OptionValue
  UsesFlag : OptionValue
  ReadableFlag : OptionValue
  Article : OptionValue

-- what stands behind a command's word
pub record Arguments : Type 0 where
  pub options : List OptionValue
  pub operands : List (List ℕ)

-- what options ask for: a folder where they name one, sections of the summary, whether it is what theorems rest on,
-- or readable text, and whether it is the sample's article
pub record SettingsValue : Type 0 where
  pub folder : Option (List ℕ)
  pub sections : Sections
  pub uses : Bool
  pub readable : Bool
  pub article : Bool

-- a command: Check, Info, Uses, Readable, Link, Minimise and Prove have the folder of the packages and the input,
-- Info has the sections too; Read has the text behind them, and Find the pattern between them; a sample has its
-- number, and Verify the log
pub data CommandValue : Type 0 where
  Check : List ℕ → List ℕ → CommandValue
  Info : List ℕ → List ℕ → Sections → CommandValue
  Uses : List ℕ → List ℕ → CommandValue
  Readable : List ℕ → List ℕ → CommandValue
  Link : List ℕ → List ℕ → CommandValue
  Minimise : List ℕ → List ℕ → CommandValue
  Sample : ℕ → CommandValue
  SampleArticle : ℕ → CommandValue
  Read : List ℕ → List ℕ → List ℕ → CommandValue
  Prove : List ℕ → List ℕ → CommandValue
  Verify : List ℕ → CommandValue
  Find : List ℕ → List ℕ → List ℕ → CommandValue

-- ---- words

-- the word of a command
abbrev pub verb_word : Verb → List ℕ
verb_word verb.Check = codes "check"
verb_word verb.Info = codes "info"
verb_word verb.Link = codes "link"
verb_word verb.Minimise = codes "minimise"
verb_word verb.Sample = codes "sample"
verb_word verb.Read = codes "read"
verb_word verb.Prove = codes "prove"
verb_word verb.Verify = codes "verify"
verb_word verb.Find = codes "find"

-- the command that a word names
abbrev pub verb_named : List ℕ → Option Verb
verb_named word =
    if bytes_eq word (codes "check") then Some verb.Check
    else if bytes_eq word (codes "info") then Some verb.Info
    else if bytes_eq word (codes "link") then Some verb.Link
    else if bytes_eq word (codes "minimise") then Some verb.Minimise
    else if bytes_eq word (codes "sample") then Some verb.Sample
    else if bytes_eq word (codes "read") then Some verb.Read
    else if bytes_eq word (codes "prove") then Some verb.Prove
    else if bytes_eq word (codes "verify") then Some verb.Verify
    else if bytes_eq word (codes "find") then Some verb.Find else None

-- ---- options

-- the name of the option for the folder of the packages
abbrev pub packages_name : List ℕ
packages_name = codes "--packages"

-- the name of an option
abbrev pub option_name : OptionValue → List ℕ
option_name (Packages _) = packages_name
option_name Assumptions = codes "--assumptions"
option_name Definitions = codes "--definitions"
option_name Theorems = codes "--theorems"
option_name UsesFlag = codes "--uses"
option_name ReadableFlag = codes "--readable"
option_name Article = codes "--article"

-- the names of the options that a command takes
abbrev pub options_of : Verb → List (List ℕ)
options_of verb.Check = packages_name ∷ []
options_of verb.Info =
    packages_name ∷ codes "--assumptions" ∷ codes "--definitions" ∷ codes "--theorems" ∷ codes "--uses"
    ∷ codes "--readable" ∷ []
options_of verb.Link = packages_name ∷ []
options_of verb.Minimise = packages_name ∷ []
options_of verb.Sample = codes "--article" ∷ []
options_of verb.Read = packages_name ∷ []
options_of verb.Prove = packages_name ∷ []
options_of verb.Verify = []
options_of verb.Find = packages_name ∷ []

-- a command takes an option
abbrev pub takes : Verb → OptionValue → Bool
takes v o = list_any (bytes_eq (option_name o)) (options_of v)

-- an option's value is one that it may have
abbrev pub has_value : OptionValue → Bool
has_value (Packages folder) = not (bytes_eq folder [])
has_value _ = true

-- a command takes an option with this value
abbrev pub is_option : Verb → OptionValue → Bool
is_option v o = takes v o && has_value o

-- two options of one name
abbrev pub is_same : OptionValue → OptionValue → Bool
is_same o p = bytes_eq (option_name o) (option_name p)

-- each stands at most once
abbrev pub are_once : List OptionValue → Bool
are_once [] = true
are_once (o ∷ os) = not (list_any (is_same o) os) && are_once os

-- a command takes the options, and each stands at most once
abbrev pub are_options : Verb → List OptionValue → Bool
are_options v os = are_once os && list_all (is_option v) os

-- the folder that the options name
abbrev pub folder_of : List OptionValue → Option (List ℕ)
folder_of [] = None
folder_of (Packages folder ∷ _) = Some folder
folder_of (_ ∷ os) = folder_of os

-- what the options ask for
abbrev pub settings_of : List OptionValue → SettingsValue
settings_of os = record {
  folder = folder_of os;
  sections = record {
    assumptions = list_any (is_same Assumptions) os;
    definitions = list_any (is_same Definitions) os;
    theorems = list_any (is_same Theorems) os;
  };
  uses = list_any (is_same UsesFlag) os;
  readable = list_any (is_same ReadableFlag) os;
  article = list_any (is_same Article) os;
}

-- the folder of the packages
abbrev pub packages_of : SettingsValue → List ℕ
packages_of s = unwrap_or s.folder (codes "packages")

-- a section is among them
abbrev pub names_any : Sections → Bool
names_any s = s.assumptions || (s.definitions || s.theorems)

-- the sections that are shown: those that are named, all where none is
abbrev pub shown : Sections → Sections
shown s = if names_any s then s else record { assumptions = true; definitions = true; theorems = true }

-- ---- operands

-- standard input, or a file's name: a text that isn't empty, and begins with `-` only where it is `-` itself
abbrev pub is_input : List ℕ → Bool
is_input text = not (bytes_eq text []) && (bytes_eq text (codes "-") || not (starts_with nat_eq text (codes "-")))

-- a text's name, or a pattern: a text that isn't empty and doesn't begin with `-`
abbrev pub is_plain : List ℕ → Bool
is_plain text = not (bytes_eq text []) && not (starts_with nat_eq text (codes "-"))

-- a theory file's name; any other file's name is an article's
abbrev pub is_theory : List ℕ → Bool
is_theory text = ends_with nat_eq text (codes ".thy")

-- the number from 1 to this one that a text is in decimal
unfoldable pub number_to : ℕ → List ℕ → Option ℕ
number_to zero text = None
number_to (suc n) text = if bytes_eq text (decimal (suc n)) then Some (suc n) else number_to n text

-- the number of a sample
abbrev pub count_of : List ℕ → Option ℕ
count_of text = number_to 1000 text

-- ---- commands

-- an option before the arguments
abbrev pub with_option : OptionValue → Arguments → Arguments
with_option o a = record { options = o ∷ a.options; operands = a.operands }

-- operands that no option stands before
abbrev pub operands_alone : List (List ℕ) → Arguments
operands_alone words = record { options = []; operands = words }

-- the option that a word is, which has no value
abbrev pub flag_named : List ℕ → Option OptionValue
flag_named name =
    if bytes_eq name (option_name Assumptions) then Some Assumptions
    else if bytes_eq name (option_name Definitions) then Some Definitions
    else if bytes_eq name (option_name Theorems) then Some Theorems
    else if bytes_eq name (option_name UsesFlag) then Some UsesFlag
    else if bytes_eq name (option_name ReadableFlag) then Some ReadableFlag
    else if bytes_eq name (option_name Article) then Some Article else None

-- words that begin with an option without a value, before arguments, or with an operand
abbrev pub flag_or_operand : Option OptionValue → List (List ℕ) → Option Arguments → Option Arguments
flag_or_operand (Some o) words behind = option_map (with_option o) behind
flag_or_operand None words behind = Some (operands_alone words)

-- ARGUMENTS = OPERANDS | --packages DIR ARGUMENTS | FLAG ARGUMENTS
abbrev pub arguments : List (List ℕ) → Option Arguments
arguments [] = Some (operands_alone [])
arguments (name ∷ []) =
    if bytes_eq name packages_name then None
    else flag_or_operand (flag_named name) (name ∷ []) (Some (operands_alone []))
arguments (name ∷ next ∷ words) =
    if bytes_eq name packages_name then option_map (with_option (Packages next)) (arguments words)
    else flag_or_operand (flag_named name) (name ∷ next ∷ words) (arguments (next ∷ words))

-- what `info` shows of an input: sections where neither of the other two is asked for, and else one of these alone
abbrev pub info : SettingsValue → List ℕ → List ℕ → Option CommandValue
info s packages input =
    if not (s.uses || s.readable) then Some (Info packages input (shown s.sections))
    else if names_any s.sections || (s.uses && s.readable) then None
    else Some (if s.uses then Uses packages input else Readable packages input)

-- a sample, or its article, of a number
abbrev pub sample : Bool → ℕ → CommandValue
sample article n = if article then SampleArticle n else Sample n

-- the command of what its options ask for, and its one operand
abbrev pub command_on : Verb → SettingsValue → List ℕ → Option CommandValue
command_on verb.Check s input = if is_input input then Some (Check (packages_of s) input) else None
command_on verb.Info s input = if is_input input then info s (packages_of s) input else None
command_on verb.Link s file = if is_input file && is_theory file then Some (Link (packages_of s) file) else None
command_on verb.Minimise s input = if is_input input then Some (Minimise (packages_of s) input) else None
command_on verb.Sample s number = option_map (sample s.article) (count_of number)
command_on verb.Prove s input = if is_input input then Some (Prove (packages_of s) input) else None
command_on verb.Verify s log = if is_input log then Some (Verify log) else None
command_on verb.Read s operand = None
command_on verb.Find s operand = None

-- and its two operands
abbrev pub command_on_two : Verb → SettingsValue → List ℕ → List ℕ → Option CommandValue
command_on_two verb.Read s input text = if is_input input && is_plain text then Some (Read (packages_of s) input text)
    else None
command_on_two verb.Find s pattern input =
    if is_plain pattern && is_input input then Some (Find (packages_of s) pattern input) else None
command_on_two _ s first second = None

-- the command of what its options ask for, and its operands
abbrev pub command_with : Verb → SettingsValue → List (List ℕ) → Option CommandValue
command_with v s (operand ∷ []) = command_on v s operand
command_with v s (first ∷ second ∷ []) = command_on_two v s first second
command_with v s operands = None

-- the command of its arguments
abbrev pub command : Verb → Arguments → Option CommandValue
command v a = if are_options v a.options then command_with v (settings_of a.options) a.operands else None

-- the command that the words write
abbrev pub command_of : List (List ℕ) → Option CommandValue
command_of [] = None
command_of (word ∷ words) = option_and_then (λ v. option_and_then (command v) (arguments words)) (verb_named word)

-- ---- the same from the other side: how a command is written

-- how an option is written
abbrev pub option_words : OptionValue → List (List ℕ)
option_words (Packages folder) = packages_name ∷ folder ∷ []
option_words flag = option_name flag ∷ []

-- how options are written before operands
abbrev pub argument_words : List OptionValue → List (List ℕ) → List (List ℕ)
argument_words [] operands = operands
argument_words (o ∷ os) operands = option_words o ++ argument_words os operands

-- which command it is
abbrev pub verb_of : CommandValue → Verb
verb_of (Check _ _) = verb.Check
verb_of (Info _ _ _) = verb.Info
verb_of (Uses _ _) = verb.Info
verb_of (Readable _ _) = verb.Info
verb_of (Link _ _) = verb.Link
verb_of (Minimise _ _) = verb.Minimise
verb_of (Sample _) = verb.Sample
verb_of (SampleArticle _) = verb.Sample
verb_of (Read _ _ _) = verb.Read
verb_of (Prove _ _) = verb.Prove
verb_of (Verify _) = verb.Verify
verb_of (Find _ _ _) = verb.Find

-- a command's operands
abbrev pub operands_of : CommandValue → List (List ℕ)
operands_of (Check _ input) = input ∷ []
operands_of (Info _ input _) = input ∷ []
operands_of (Uses _ input) = input ∷ []
operands_of (Readable _ input) = input ∷ []
operands_of (Link _ file) = file ∷ []
operands_of (Minimise _ input) = input ∷ []
operands_of (Sample n) = decimal n ∷ []
operands_of (SampleArticle n) = decimal n ∷ []
operands_of (Read _ input text) = input ∷ text ∷ []
operands_of (Prove _ input) = input ∷ []
operands_of (Verify log) = log ∷ []
operands_of (Find _ pattern input) = pattern ∷ input ∷ []

-- the operands are such as the command may have
abbrev pub FitsOperands : CommandValue → Type 0
FitsOperands (Check _ input) = is_input input ≡ true
FitsOperands (Info _ input _) = is_input input ≡ true
FitsOperands (Uses _ input) = is_input input ≡ true
FitsOperands (Readable _ input) = is_input input ≡ true
FitsOperands (Link _ file) = (is_input file ≡ true) × (is_theory file ≡ true)
FitsOperands (Minimise _ input) = is_input input ≡ true
FitsOperands (Sample n) = (1 ≤ n) × (n ≤ 1000)
FitsOperands (SampleArticle n) = (1 ≤ n) × (n ≤ 1000)
FitsOperands (Read _ input text) = (is_input input ≡ true) × (is_plain text ≡ true)
FitsOperands (Prove _ input) = is_input input ≡ true
FitsOperands (Verify log) = is_input log ≡ true
FitsOperands (Find _ pattern input) = (is_plain pattern ≡ true) × (is_input input ≡ true)

-- the command has what its options ask for
abbrev pub FitsSettings : SettingsValue → CommandValue → Type 0
FitsSettings s (Check packages _) = packages_of s ≡ packages
FitsSettings s (Info packages _ sections) = (packages_of s ≡ packages) × (shown s.sections ≡ sections)
    × (s.uses ≡ false) × (s.readable ≡ false)
FitsSettings s (Uses packages _) = (packages_of s ≡ packages) × (s.uses ≡ true) × (s.readable ≡ false)
    × (names_any s.sections ≡ false)
FitsSettings s (Readable packages _) = (packages_of s ≡ packages) × (s.uses ≡ false) × (s.readable ≡ true)
    × (names_any s.sections ≡ false)
FitsSettings s (Link packages _) = packages_of s ≡ packages
FitsSettings s (Minimise packages _) = packages_of s ≡ packages
FitsSettings s (Sample _) = s.article ≡ false
FitsSettings s (SampleArticle _) = s.article ≡ true
FitsSettings s (Read packages _ _) = packages_of s ≡ packages
FitsSettings s (Prove packages _) = packages_of s ≡ packages
FitsSettings s (Verify _) = Unit
FitsSettings s (Find packages _ _) = packages_of s ≡ packages

-- the words are a command's word, options that it takes, and its operands, written out
pub record IsWrittenOut (words : List (List ℕ)) (c : CommandValue) : Type 0 where
  pub options : List OptionValue
  pub written : words ≡ verb_word (verb_of c) ∷ argument_words options (operands_of c)
  pub taken : are_options (verb_of c) options ≡ true
  pub settings : FitsSettings (settings_of options) c
  pub operands : FitsOperands c

-- the words are this command exactly where they write it
abbrev pub IsRead : List (List ℕ) → CommandValue → Type 0
IsRead words c = (command_of words ≡ Some c) ↔ IsWrittenOut words c

-- ---- the answers of the code

-- the bytes of the words
abbrev pub texts_of : List (String Global) → List (List ℕ)
texts_of words = map string_bytes words

-- a command without where it lies in memory
abbrev pub command_value : Command → CommandValue
command_value (code.Check packages input) = Check packages.now input.now
command_value (code.Info packages input sections) = Info packages.now input.now sections
command_value (code.Uses packages input) = Uses packages.now input.now
command_value (code.Readable packages input) = Readable packages.now input.now
command_value (code.Link packages file) = Link packages.now file.now
command_value (code.Minimise packages input) = Minimise packages.now input.now
command_value (code.Sample count) = Sample count
command_value (code.SampleArticle count) = SampleArticle count
command_value (code.Read packages input text) = Read packages.now input.now text.now
command_value (code.Prove packages input) = Prove packages.now input.now
command_value (code.Verify log) = Verify log.now
command_value (code.Find packages pattern input) = Find packages.now pattern.now input.now

-- what the code answers
abbrev pub command_answer : Result Command Usage → Option CommandValue
command_answer (Ok c) = Some (command_value c)
command_answer (Err _) = None
