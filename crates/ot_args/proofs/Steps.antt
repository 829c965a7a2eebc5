-- One word more is read as the grammar has it.
use Rattle.std.proofs.Common.{◌≡◌, ℕ, ◌≤◌, ◌-◌, Bool, true, false, cond, List, [], ◌∷◌, length}
use Rattle.std.proofs.Common.{get_or, take, drop, length-drop, refl, ap, sym, ◌∙◌, arith}
use Rattle.std.specs.Prelude.{String, Option, None, Some, Result, Ok, Err}
use Rattle.std.specs.Result.{IsErr}
use Rattle.std.specs.Global.{Global}
use Rattle.std.specs.String.{string_bytes}
use Rattle.std.proofs.Math.Seq.{take-length}
use Rattle.std.specs.Option.{option_map, option_and_then}
use Rattle.std.specs.Str.{bytes_eq}
use Rattle.ot_args.specs.Grammar.{OptionValue, Packages, Arguments, SettingsValue, CommandValue, packages_name}
use Rattle.ot_args.specs.Grammar.{flag_named, with_option, operands_alone, are_options, settings_of, arguments}
use Rattle.ot_args.specs.Grammar.{command, command_with, command_of, verb_named, texts_of}
use Rattle.ot_args.specs.Reading.{GivenValue, given_answer, no_settings, with_operands}
use Rattle.ot_args.specs.Reading.{set_one, set_all, given_after, read_after}
use Rattle.ot_args.specs.declared.arguments.Given.{Given}
use Rattle.ot_args.specs.declared.command.Usage.{Usage}
use Rattle.ot_args.specs.declared.verb.Verb.{Verb}
use Rattle.ot_args.proofs.OptionLemmas.{set_all-nothing}

-- ---- the front of the words
-- what stands behind the first word
abbrev behind : List (String Global) → List (String Global)
behind words = take (length words - 1) (drop 1 words)

behind_is : (words : List (String Global)) → behind words ≡ drop 1 words
behind_is words =
    let n : length words - 1 ≡ length (drop 1 words) = omega (arith, length-drop 1 words) in
    ap (λ (m : ℕ). take m (drop 1 words)) n ∙ take-length (drop 1 words)

-- a first word that was read stands before the others
first_word : (words : List (String Global)) (word : String Global) → 1 ≤ length words → word ≡ get_or words 0 word
    → words ≡ word ∷ drop 1 words
first_word [] word h e = absurd (omega arith)
first_word (first ∷ words) word h e = ap (λ (w : String Global). w ∷ words) (sym e)

-- the texts of words with a first one
first_text : (words : List (String Global)) (word : String Global) (text : List ℕ) → 1 ≤ length words
    → word ≡ get_or words 0 word → text ≡ string_bytes word → texts_of words ≡ text ∷ texts_of (behind words)
first_text words word text h e same =
    ap texts_of (first_word words word h e)
    ∙ ap (λ (t : List ℕ). t ∷ texts_of (drop 1 words)) (sym same)
    ∙ ap (λ (ws : List (String Global)). text ∷ texts_of ws) (sym (behind_is words))

-- ---- arguments by their first word
-- an option without a value
pub flag_first : (name : List ℕ) (o : OptionValue) (words : List (List ℕ)) → bytes_eq name packages_name ≡ false
    → flag_named name ≡ Some o → arguments (name ∷ words) ≡ option_map (with_option o) (arguments words)
flag_first name o [] other named = rw (other, named) refl
flag_first name o (next ∷ words) other named = rw (other, named) refl

-- an operand
pub operand_first : (name : List ℕ) (words : List (List ℕ)) → bytes_eq name packages_name ≡ false
    → flag_named name ≡ None → arguments (name ∷ words) ≡ Some (operands_alone (name ∷ words))
operand_first name [] other none = rw (other, none) refl
operand_first name (next ∷ words) other none = rw (other, none) refl

-- ---- an option before arguments
-- the arguments behind an option, from what it sets
abbrev read_on : Verb → Option Arguments → Option SettingsValue → Option GivenValue
read_on v r w = option_and_then (λ t. option_and_then (given_after v t) r) w

-- some arguments behind it
option_set : (v : Verb) (a : Arguments) (w : Option SettingsValue)
    → option_map (with_operands a.operands) (option_and_then (set_all v a.options) w) ≡ read_on v (Some a) w
option_set v a None = refl
option_set v a (Some t) = refl

-- no arguments behind it
no_arguments : (v : Verb) (w : Option SettingsValue) → None ≡ read_on v None w
no_arguments v None = refl
no_arguments v (Some t) = refl

-- it is set before the options behind it
option_before : (v : Verb) (s : SettingsValue) (o : OptionValue) (w : Option SettingsValue) (r : Option Arguments)
    → set_one v s o ≡ w → option_and_then (given_after v s) (option_map (with_option o) r) ≡ read_on v r w
option_before v s o w None h = no_arguments v w
option_before v s o w (Some a) h =
    ap (λ (u : Option SettingsValue). option_map (with_operands a.operands) (option_and_then (set_all v a.options) u))
    h
    ∙ option_set v a w

-- ---- the words of a slice
-- the option for the folder is first, and a folder behind it
folder_step : (v : Verb) (s : SettingsValue) (name next : List ℕ) (words : List (List ℕ)) (w : Option SettingsValue)
    → bytes_eq name packages_name ≡ true → set_one v s (Packages next) ≡ w → read_after v s (name ∷ next ∷ words)
    ≡ read_on v (arguments words) w
folder_step v s name next words w e h = rw e (option_before v s (Packages next) w (arguments words) h)

pub folder_loop : (v : Verb) (words : List (String Global)) (name next : String Global) (text value : List ℕ)
    (s : SettingsValue) (w : Option SettingsValue) → 1 ≤ length words → name ≡ get_or words 0 name
    → text ≡ string_bytes name → bytes_eq text packages_name ≡ true → 1 ≤ length (behind words)
    → next ≡ get_or (behind words) 0 next → value ≡ string_bytes next → w ≡ set_one v s (Packages value)
    → read_after v s (texts_of words) ≡ read_on v (arguments (texts_of (behind (behind words)))) w
folder_loop v words name next text value s w h e same named h' e' same' set =
    ap (read_after v s) (first_text words name text h e same)
    ∙ ap (λ (ws : List (List ℕ)). read_after v s (text ∷ ws)) (first_text (behind words) next value h' e' same')
    ∙ folder_step v s text value (texts_of (behind (behind words))) w named (sym set)

-- an answer that is refused
pub refused : (r : Result Given Usage) → IsErr r → given_answer r ≡ None
refused (Ok g) e = cc
refused (Err e) h = refl

-- ---- the command
-- the command of what was given
abbrev given_command : Verb → GivenValue → Option CommandValue
given_command v g = command_with v g.settings g.operands

-- what the arguments say, by whether the command takes the options
command_from : (v : Verb) (a : Arguments) (b : Bool) → cond b (command_with v (settings_of a.options) a.operands) None
    ≡ option_and_then (given_command v)
    (option_map (with_operands a.operands) (cond b (Some (settings_of a.options)) None))
command_from v a true = refl
command_from v a false = refl

-- the command of arguments
command_behind : (v : Verb) (r : Option Arguments) → option_and_then (command v) r ≡ option_and_then (given_command v)
    (option_and_then (given_after v no_settings) r)
command_behind v None = refl
command_behind v (Some a) =
    command_from v a (are_options v a.options)
    ∙ ap (λ (w : Option SettingsValue). option_and_then (given_command v) (option_map (with_operands a.operands) w))
    (sym (set_all-nothing v a.options))

-- the command of the words behind its own
pub given_read : (v : Verb) (words : List (List ℕ)) (r : Option GivenValue) → r ≡ read_after v no_settings words
    → option_and_then (command v) (arguments words) ≡ option_and_then (given_command v) r
given_read v words r given = command_behind v (arguments words) ∙ ap (option_and_then (given_command v)) (sym given)

-- the command of a slice of words
pub command_read : (words : List (String Global)) (word : String Global) (text : List ℕ) (r : Option Verb)
    → 1 ≤ length words → word ≡ get_or words 0 word → text ≡ string_bytes word → r ≡ verb_named text
    → command_of (texts_of words)
    ≡ option_and_then (λ v. option_and_then (command v) (arguments (texts_of (behind words)))) r
command_read words word text r h e same named =
    ap command_of (first_text words word text h e same)
    ∙ ap (option_and_then (λ v. option_and_then (command v) (arguments (texts_of (behind words))))) (sym named)

-- no command has no operand, or three
pub few_operands : (v : Verb) (s : SettingsValue) (words : List (String Global)) → length words ≤ 0
    → None ≡ command_with v s (texts_of words)
few_operands v s [] none = refl
few_operands v s (word ∷ words) none = absurd (omega arith)

pub many_operands : (v : Verb) (s : SettingsValue) (words : List (String Global)) → 3 ≤ length words
    → None ≡ command_with v s (texts_of words)
many_operands v s [] many = absurd (omega arith)
many_operands v s (one ∷ []) many = absurd (omega arith)
many_operands v s (one ∷ two ∷ []) many = absurd (omega arith)
many_operands v s (one ∷ two ∷ three ∷ words) many = refl
