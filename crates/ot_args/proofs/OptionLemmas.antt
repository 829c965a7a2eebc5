-- Options that are read one by one ask for what the list of them says.
use Rattle.std.proofs.Common.{◌≡◌, ℕ, Bool, true, false, not, ◌&&◌, ◌||◌, cond, List, [], ◌∷◌, refl, ap, sym, ◌∙◌}
use Rattle.std.specs.Prelude.{Option, None, Some, is_some}
use Rattle.std.specs.Option.{option_or, option_and_then}
use Rattle.std.specs.List.{list_all, list_any}
use Rattle.std.proofs.Math.Bool.{and_comm, or-false}
use Rattle.ot_args.specs.Grammar.{OptionValue, Packages, Assumptions, Definitions, Theorems}
use Rattle.ot_args.specs.Grammar.{UsesFlag, ReadableFlag, Article, SettingsValue, is_option}
use Rattle.ot_args.specs.Grammar.{is_same, are_once, are_options, folder_of, settings_of}
use Rattle.ot_args.specs.Reading.{no_settings, is_set, with, set_all}
use Rattle.ot_args.specs.declared.verb.Verb.{Verb}

-- settings with options behind them
abbrev joined : SettingsValue → List OptionValue → SettingsValue
joined s os = record {
  folder = option_or s.folder (folder_of os);
  sections = record {
    assumptions = s.sections.assumptions || list_any (is_same Assumptions) os;
    definitions = s.sections.definitions || list_any (is_same Definitions) os;
    theorems = s.sections.theorems || list_any (is_same Theorems) os;
  };
  uses = s.uses || list_any (is_same UsesFlag) os;
  readable = s.readable || list_any (is_same ReadableFlag) os;
  article = s.article || list_any (is_same Article) os;
}

-- set before, or set now
is_set-with : (s : SettingsValue) (o p : OptionValue) → is_set (with s o) p ≡ (is_same o p || is_set s p)
is_set-with s (Packages _) (Packages _) = refl
is_set-with s Assumptions Assumptions = refl
is_set-with s Definitions Definitions = refl
is_set-with s Theorems Theorems = refl
is_set-with s UsesFlag UsesFlag = refl
is_set-with s ReadableFlag ReadableFlag = refl
is_set-with s Article Article = refl
is_set-with s _ _ = refl

-- two choices of two, sorted
either : (a b x y : Bool) → ((a || b) || (x || y)) ≡ ((a || x) || (b || y))
either true b x y = refl
either false true true y = refl
either false true false y = refl
either false false x y = refl

-- some option was set before, or is one that is set now
any_set-with : (s : SettingsValue) (o : OptionValue) (os : List OptionValue) → list_any (is_set (with s o)) os
    ≡ (list_any (is_same o) os || list_any (is_set s) os)
any_set-with s o [] = refl
any_set-with s o (p ∷ os) =
    rw (is_set-with s o p, any_set-with s o os)
    (either (is_same o p) (is_set s p) (list_any (is_same o) os) (list_any (is_set s) os))

-- the folder that is set now is the first, where none was set before
first_folder : (w : Option (List ℕ)) (folder : List ℕ) (rest : Option (List ℕ)) → is_some w ≡ false
    → option_or (Some folder) rest ≡ option_or w (Some folder)
first_folder None folder rest h = refl
first_folder (Some other) folder rest h = cc

-- an option that is set joins those before it
joined-with : (s : SettingsValue) (o : OptionValue) (os : List OptionValue) → is_set s o ≡ false
    → joined (with s o) os ≡ joined s (o ∷ os)
joined-with s (Packages folder) os h =
    let t : SettingsValue = joined s os in
    ap (λ (w : Option (List ℕ)). record {
      folder = w;
      sections = t.sections;
      uses = t.uses;
      readable = t.readable;
      article = t.article;
    }) (first_folder s.folder folder (folder_of os) h)
joined-with s Assumptions os h = rw h refl
joined-with s Definitions os h = rw h refl
joined-with s Theorems os h = rw h refl
joined-with s UsesFlag os h = rw h refl
joined-with s ReadableFlag os h = rw h refl
joined-with s Article os h = rw h refl

-- nothing in place of nothing
option_or-none : (w : Option (List ℕ)) → option_or w None ≡ w
option_or-none None = refl
option_or-none (Some folder) = refl

-- no options leave the settings
joined-nothing : (s : SettingsValue) → joined s [] ≡ s
joined-nothing s =
    rw (
      option_or-none s.folder,
      or-false s.sections.assumptions,
      or-false s.sections.definitions,
      or-false
          s.sections.theorems,
      or-false s.uses,
      or-false s.readable,
      or-false s.article,
    ) refl

-- ---- all options

-- each at most once and none set before, with one option taken apart
apart : (same set once values : Bool) → ((once && values) && not (same || set))
    ≡ (((not same && once) && values) && not set)
apart true set true true = refl
apart true set true false = refl
apart true set false values = refl
apart false set once values = refl

-- an option that isn't taken
refused : {A : Type 0} (once values set : Bool) (x : A)
    → None ≡ cond ((once && (false && values)) && set) (Some x) None
refused true values set x = refl
refused false values set x = refl

-- an option that was set before
set_before : {A : Type 0} (b : Bool) (x : A) → None ≡ cond (b && false) (Some x) None
set_before true x = refl
set_before false x = refl

-- options are set one by one exactly where they may stand together behind those before
abbrev IsSet : Verb → List OptionValue → Type 0
IsSet v os = (s : SettingsValue) → set_all v os s ≡ cond (are_options v os && not (list_any (is_set s) os))
    (Some (joined s os)) None

-- one option before options
one_more : (v : Verb) (o : OptionValue) (os : List OptionValue) (s : SettingsValue) (value set : Bool) → IsSet v os
    → set ≡ is_set s o → option_and_then (set_all v os) (cond (value && not set) (Some (with s o)) None)
    ≡ cond (((not (list_any (is_same o) os) && are_once os) && (value && list_all (is_option v) os))
    && not (set || list_any (is_set s) os)) (Some (joined s (o ∷ os))) None
one_more v o os s false set rest e = refused (not (list_any (is_same o) os) && are_once os)
    (list_all (is_option v) os) (not (set || list_any (is_set s) os)) (joined s (o ∷ os))
one_more v o os s true true rest e =
    set_before ((not (list_any (is_same o) os) && are_once os) && list_all (is_option v) os) (joined s (o ∷ os))
one_more v o os s true false rest e =
    rest (with s o)
    ∙ ap (λ (t : SettingsValue). cond (are_options v os && not (list_any (is_set (with s o)) os)) (Some t) None)
    (joined-with s o os (sym e))
    ∙ ap (λ (b : Bool). cond (are_options v os && not b) (Some (joined s (o ∷ os))) None) (any_set-with s o os)
    ∙ ap (λ (b : Bool). cond b (Some (joined s (o ∷ os))) None)
    (apart (list_any (is_same o) os) (list_any (is_set s) os) (are_once os) (list_all (is_option v) os))

-- all of them
all_set : (v : Verb) (os : List OptionValue) → IsSet v os
all_set v [] s = ap Some (sym (joined-nothing s))
all_set v (o ∷ os) s = one_more v o os s (is_option v o) (is_set s o) (all_set v os) refl

-- nothing was set before the first option
none_set : (os : List OptionValue) → list_any (is_set no_settings) os ≡ false
none_set [] = refl
none_set (Packages _ ∷ os) = none_set os
none_set (Assumptions ∷ os) = none_set os
none_set (Definitions ∷ os) = none_set os
none_set (Theorems ∷ os) = none_set os
none_set (UsesFlag ∷ os) = none_set os
none_set (ReadableFlag ∷ os) = none_set os
none_set (Article ∷ os) = none_set os

-- what options ask for, which are read one by one from the first
pub set_all-nothing : (v : Verb) (os : List OptionValue) → set_all v os no_settings
    ≡ cond (are_options v os) (Some (settings_of os)) None
set_all-nothing v os =
    all_set v os no_settings
    ∙ ap (λ (b : Bool). cond (are_options v os && not b) (Some (settings_of os)) None) (none_set os)
    ∙ ap (λ (b : Bool). cond b (Some (settings_of os)) None) (and_comm (are_options v os) true)
