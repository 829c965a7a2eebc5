-- What the code reads behind a command's word. Only contracts of private functions speak of it.
use Rattle.std.specs.Prelude.{ℕ, Bool, true, false, not, ◌&&◌, is_some, List, [], ◌∷◌}
use Rattle.std.specs.Prelude.{Option, None, Some, Result, Ok, Err, if◌then◌else◌}
use Rattle.std.specs.Option.{option_map, option_and_then, option_copied}
use Rattle.ot_args.specs.Grammar.{OptionValue, Packages, Assumptions, Definitions, Theorems, UsesFlag}
use Rattle.ot_args.specs.Grammar.{ReadableFlag, Article, Arguments, SettingsValue, is_option, arguments, texts_of}
use Rattle.ot_args.specs.declared.arguments.Given.{Given}
use Rattle.ot_args.specs.declared.command.Usage.{Usage}
use Rattle.ot_args.specs.declared.settings.CommandOption.{CommandOption}
use Rattle.ot_args.specs.declared.settings.CommandOption.TheVariants as code
use Rattle.ot_args.specs.declared.settings.Settings.{Settings}
use Rattle.ot_args.specs.declared.verb.Verb.{Verb}

-- before any option
abbrev pub no_settings : SettingsValue
no_settings =
    record {
      folder = None;
      sections = record { assumptions = false; definitions = false; theorems = false };
      uses = false;
      readable = false;
      article = false;
    }

-- ---- options behind others

-- an option of this name was set
abbrev pub is_set : SettingsValue → OptionValue → Bool
is_set s (Packages _) = is_some s.folder
is_set s Assumptions = s.sections.assumptions
is_set s Definitions = s.sections.definitions
is_set s Theorems = s.sections.theorems
is_set s UsesFlag = s.uses
is_set s ReadableFlag = s.readable
is_set s Article = s.article

-- settings with an option
abbrev pub with : SettingsValue → OptionValue → SettingsValue
with s (Packages folder) = record s { folder = Some folder }
with s Assumptions = record s { sections = record s.sections { assumptions = true } }
with s Definitions = record s { sections = record s.sections { definitions = true } }
with s Theorems = record s { sections = record s.sections { theorems = true } }
with s UsesFlag = record s { uses = true }
with s ReadableFlag = record s { readable = true }
with s Article = record s { article = true }

-- one option more, where it may stand behind those before
abbrev pub set_one : Verb → SettingsValue → OptionValue → Option SettingsValue
set_one v s o = if is_option v o && not (is_set s o) then Some (with s o) else None

-- more options, each where it may stand
abbrev pub set_all : Verb → List OptionValue → SettingsValue → Option SettingsValue
set_all v [] s = Some s
set_all v (o ∷ os) s = option_and_then (set_all v os) (set_one v s o)

-- ---- what was given

-- what options ask for, and the operands
pub record GivenValue : Type 0 where
  pub settings : SettingsValue
  pub operands : List (List ℕ)

-- what was given with operands
abbrev pub with_operands : List (List ℕ) → SettingsValue → GivenValue
with_operands operands s = record { settings = s; operands = operands }

-- arguments behind options that were read before
abbrev pub given_after : Verb → SettingsValue → Arguments → Option GivenValue
given_after v s a = option_map (with_operands a.operands) (set_all v a.options s)

-- what words say behind options that were read before
abbrev pub read_after : Verb → SettingsValue → List (List ℕ) → Option GivenValue
read_after v s words = option_and_then (given_after v s) (arguments words)

-- ---- the values and answers of the code

-- an option without where its value lies in memory
abbrev pub option_value : CommandOption → OptionValue
option_value (code.Packages folder) = Packages folder.now
option_value code.Assumptions = Assumptions
option_value code.Definitions = Definitions
option_value code.Theorems = Theorems
option_value code.Uses = UsesFlag
option_value code.Readable = ReadableFlag
option_value code.Article = Article

-- settings without where their folder lies in memory
abbrev pub settings_value : Settings → SettingsValue
settings_value s =
    record {
      folder = option_copied s.packages;
      sections = s.sections;
      uses = s.uses;
      readable = s.readable;
      article = s.article;
    }

-- what was given without where it lies in memory
abbrev pub given_value : Given → GivenValue
given_value g = record { settings = settings_value g.settings; operands = texts_of g.operands.now }

-- what the code answers to one option more
abbrev pub settings_answer : Result Settings Usage → Option SettingsValue
settings_answer (Ok s) = Some (settings_value s)
settings_answer (Err _) = None

-- what the code answers to the words behind a command's word
abbrev pub given_answer : Result Given Usage → Option GivenValue
given_answer (Ok g) = Some (given_value g)
given_answer (Err _) = None
