-- Commands are read exactly as they are written.
use Rattle.std.proofs.Common.{◌≡◌, ◌≤◌, ◌<◌, ℕ, get_or, Bool, true, false, not, ◌&&◌, ◌||◌, cond}
use Rattle.std.proofs.Common.{List, [], ◌∷◌, ◌++◌, codes, refl, ap, sym, ◌∙◌, subst, arith}
use Rattle.std.specs.Prelude.{Option, None, Some, Result, Ok, Err, IfOk, decimal, nat_eq}
use Rattle.std.specs.Option.{option_map, option_and_then}
use Rattle.std.specs.Str.{bytes_eq}
use Rattle.std.proofs.lemmas.Bool.{ne_eqb}
use Rattle.std.proofs.lemmas.Fmt.{first_decimal}
use Rattle.std.proofs.lemmas.Slice.Eq.{bytes_eq-Decides}
use Rattle.ot_args.specs.declared.command.Command.{Command}
use Rattle.ot_args.specs.declared.command.Usage.{Usage}
use Rattle.ot_args.specs.declared.verb.Verb.{Verb}
use Rattle.ot_args.specs.declared.verb.Verb.TheVariants as verb
use Rattle.ot_args.specs.Grammar.{OptionValue, Packages, Assumptions, Definitions, Theorems, UsesFlag, ReadableFlag}
use Rattle.ot_args.specs.Grammar.{Article, Arguments, SettingsValue, CommandValue, Check, Info, Uses, Readable, Link}
use Rattle.ot_args.specs.Grammar.{Minimise, Sample, SampleArticle, Read, Prove, Verify, Find, packages_name}
use Rattle.ot_args.specs.Grammar.{option_name, option_words, flag_named, flag_or_operand, with_option, operands_alone}
use Rattle.ot_args.specs.Grammar.{are_options, settings_of, packages_of, names_any, shown, is_input, is_plain}
use Rattle.ot_args.specs.Grammar.{is_theory, count_of, arguments, argument_words, sample, command, command_on}
use Rattle.ot_args.specs.Grammar.{command_on_two, command_with, command_of, verb_word, verb_named, verb_of}
use Rattle.ot_args.specs.Grammar.{operands_of, FitsOperands, FitsSettings, IsWrittenOut, IsRead}
use Rattle.ot_args.specs.Grammar.{command_value, command_answer}
use Rattle.ot_args.proofs.Counts.{found, finds}
use Rattle.ot_args.proofs.Steps.{flag_first, operand_first}

-- ---- an option's name is no operand

-- an option without a value is written by its name, whichever of the tests finds it
spelled : (name : List ℕ) (o : OptionValue) (a d t u r l : Bool) → (a ≡ true → name ≡ option_name Assumptions)
    → (d ≡ true → name ≡ option_name Definitions) → (t ≡ true → name ≡ option_name Theorems)
    → (u ≡ true → name ≡ option_name UsesFlag) → (r ≡ true → name ≡ option_name ReadableFlag)
    → (l ≡ true → name ≡ option_name Article)
    → cond a (Some Assumptions)
    (cond d (Some Definitions)
    (cond t (Some Theorems) (cond u (Some UsesFlag) (cond r (Some ReadableFlag) (cond l (Some Article) None)))))
    ≡ Some o → option_words o ≡ name ∷ []
spelled name o true d t u r l is_a is_d is_t is_u is_r is_l h =
    let same : Assumptions ≡ o = cc in ap option_words (sym same) ∙ ap (λ (n : List ℕ). n ∷ []) (sym (is_a refl))
spelled name o false true t u r l is_a is_d is_t is_u is_r is_l h =
    let same : Definitions ≡ o = cc in ap option_words (sym same) ∙ ap (λ (n : List ℕ). n ∷ []) (sym (is_d refl))
spelled name o false false true u r l is_a is_d is_t is_u is_r is_l h =
    let same : Theorems ≡ o = cc in ap option_words (sym same) ∙ ap (λ (n : List ℕ). n ∷ []) (sym (is_t refl))
spelled name o false false false true r l is_a is_d is_t is_u is_r is_l h =
    let same : UsesFlag ≡ o = cc in ap option_words (sym same) ∙ ap (λ (n : List ℕ). n ∷ []) (sym (is_u refl))
spelled name o false false false false true l is_a is_d is_t is_u is_r is_l h =
    let same : ReadableFlag ≡ o = cc in ap option_words (sym same) ∙ ap (λ (n : List ℕ). n ∷ []) (sym (is_r refl))
spelled name o false false false false false true is_a is_d is_t is_u is_r is_l h =
    let same : Article ≡ o = cc in ap option_words (sym same) ∙ ap (λ (n : List ℕ). n ∷ []) (sym (is_l refl))
spelled name o false false false false false false is_a is_d is_t is_u is_r is_l h = cc

flag_spelled : (name : List ℕ) (o : OptionValue) → flag_named name ≡ Some o → option_words o ≡ name ∷ []
flag_spelled name o h =
    spelled name o _ _ _ _ _ _ (bytes_eq-Decides name (option_name Assumptions)).0
    (bytes_eq-Decides name (option_name Definitions)).0 (bytes_eq-Decides name (option_name Theorems)).0
    (bytes_eq-Decides name (option_name UsesFlag)).0 (bytes_eq-Decides name (option_name ReadableFlag)).0
    (bytes_eq-Decides name (option_name Article)).0 h

-- no option's name may be an input's
no_input : (name : List ℕ) (o : OptionValue) → option_words o ≡ name ∷ [] → is_input name ≡ false
no_input name (Packages folder) h = cc
no_input name Assumptions h = let same : option_name Assumptions ≡ name = cc in
    subst (λ (n : List ℕ). is_input n ≡ false) same refl
no_input name Definitions h = let same : option_name Definitions ≡ name = cc in
    subst (λ (n : List ℕ). is_input n ≡ false) same refl
no_input name Theorems h = let same : option_name Theorems ≡ name = cc in
    subst (λ (n : List ℕ). is_input n ≡ false) same refl
no_input name UsesFlag h = let same : option_name UsesFlag ≡ name = cc in
    subst (λ (n : List ℕ). is_input n ≡ false) same refl
no_input name ReadableFlag h = let same : option_name ReadableFlag ≡ name = cc in
    subst (λ (n : List ℕ). is_input n ≡ false) same refl
no_input name Article h = let same : option_name Article ≡ name = cc in
    subst (λ (n : List ℕ). is_input n ≡ false) same refl

-- so what may be an input's name isn't the option for the folder
no_folder : (operand : List ℕ) (b : Bool) → is_input operand ≡ true → (b ≡ true → operand ≡ packages_name) → b ≡ false
no_folder operand false holds is = refl
no_folder operand true holds is =
    let named : is_input operand ≡ false = ap is_input (is refl) in cc

-- nor one without a value
no_flag : (operand : List ℕ) (r : Option OptionValue) → is_input operand ≡ true → flag_named operand ≡ r
    → flag_named operand ≡ None
no_flag operand None holds e = e
no_flag operand (Some o) holds e =
    let named : is_input operand ≡ false = no_input operand o (flag_spelled operand o e) in cc

or_true : (b : Bool) → (b || true) ≡ true
or_true true = refl
or_true false = refl

-- a number's text may be an input's name
high_first : (text : List ℕ) → 48 < get_or text 0 0 → is_input text ≡ true
high_first [] high = absurd (omega arith)
high_first (b ∷ bs) high =
    let other : nat_eq 45 b ≡ false = ne_eqb 45 b (λ e. omega arith) in
    rw other (or_true _)

-- ---- what is written is read

-- operands begin with what may be an input's name
abbrev BeginPlain : List (List ℕ) → Type 0
BeginPlain [] = Unit {0}
BeginPlain (operand ∷ operands) = is_input operand ≡ true

operands_read : (operands : List (List ℕ)) → BeginPlain operands → arguments operands ≡ Some (operands_alone operands)
operands_read [] plain = refl
operands_read (operand ∷ operands) plain =
    operand_first operand operands (no_folder operand _ plain (bytes_eq-Decides operand packages_name).0)
    (no_flag operand _ plain refl)

arguments_read : (os : List OptionValue) (operands : List (List ℕ)) → BeginPlain operands
    → arguments (argument_words os operands) ≡ Some (record { options = os; operands = operands })
arguments_read [] operands plain = operands_read operands plain
arguments_read (Packages folder ∷ os) operands plain = rw (arguments_read os operands plain) refl
arguments_read (Assumptions ∷ os) operands plain = flag_first (option_name Assumptions) Assumptions
    (argument_words os operands) refl refl ∙ rw (arguments_read os operands plain) refl
arguments_read (Definitions ∷ os) operands plain = flag_first (option_name Definitions) Definitions
    (argument_words os operands) refl refl ∙ rw (arguments_read os operands plain) refl
arguments_read (Theorems ∷ os) operands plain = flag_first (option_name Theorems) Theorems
    (argument_words os operands) refl refl ∙ rw (arguments_read os operands plain) refl
arguments_read (UsesFlag ∷ os) operands plain = flag_first (option_name UsesFlag) UsesFlag
    (argument_words os operands) refl refl ∙ rw (arguments_read os operands plain) refl
arguments_read (ReadableFlag ∷ os) operands plain = flag_first (option_name ReadableFlag) ReadableFlag
    (argument_words os operands) refl refl ∙ rw (arguments_read os operands plain) refl
arguments_read (Article ∷ os) operands plain = flag_first (option_name Article) Article (argument_words os operands)
    refl refl ∙ rw (arguments_read os operands plain) refl

-- the text of a sample's number
sample_plain : (n : ℕ) → 1 ≤ n → n ≤ 1000 → is_input (decimal n) ≡ true
sample_plain n one most = high_first (decimal n) (first_decimal n (omega arith) (omega arith))

-- a pattern may be an input's name
plain_first : (text : List ℕ) → is_plain text ≡ true → is_input text ≡ true
plain_first [] h = h
plain_first (b ∷ bs) h = rw h (or_true _)

begins_plain : (c : CommandValue) → FitsOperands c → BeginPlain (operands_of c)
begins_plain (Check packages input) h = h
begins_plain (Info packages input sections) h = h
begins_plain (Uses packages input) h = h
begins_plain (Readable packages input) h = h
begins_plain (Link packages file) h = h.0
begins_plain (Minimise packages input) h = h
begins_plain (Sample n) h = sample_plain n h.0 h.1
begins_plain (SampleArticle n) h = sample_plain n h.0 h.1
begins_plain (Read packages input text) h = h.0
begins_plain (Prove packages input) h = h
begins_plain (Verify log) h = h
begins_plain (Find packages pattern input) h = plain_first pattern h.0

-- a command whose operand passes its test
passed : (b : Bool) (c d : CommandValue) (r : Option CommandValue) → b ≡ true → c ≡ d → cond b (Some c) r ≡ Some d
passed true c d r h e = ap Some e
passed false c d r h e = cc

both : (a b : Bool) → a ≡ true → b ≡ true → (a && b) ≡ true
both true b h h' = h'
both false b h h' = h

-- a sample of its number
sample_read : (article : Bool) (n : ℕ) (c : CommandValue) → 1 ≤ n → n ≤ 1000 → sample article n ≡ c
    → option_map (sample article) (count_of (decimal n)) ≡ Some c
sample_read article n c one most e =
    ap (option_map (sample article)) (finds 1000 n (decimal n) (omega arith) one most refl) ∙ ap Some e

-- what a command is written with is read as the command
fits_read : (c : CommandValue) (s : SettingsValue) → FitsSettings s c → FitsOperands c
    → command_with (verb_of c) s (operands_of c) ≡ Some c
fits_read (Check packages input) s e h = passed (is_input input) _ _ _ h (ap (λ (p : List ℕ). Check p input) e)
fits_read (Info packages input sections) s e h =
    rw (h, e.2, e.3)
    (ap Some (ap (λ (p : List ℕ). Info p input (shown s.sections)) e.0 ∙ ap (Info packages input) e.1))
fits_read (Uses packages input) s e h = rw (h, e.1, e.2, e.3) (ap (λ (p : List ℕ). Some (Uses p input)) e.0)
fits_read (Readable packages input) s e h = rw (h, e.1, e.2, e.3) (ap (λ (p : List ℕ). Some (Readable p input)) e.0)
fits_read (Link packages file) s e h =
    passed (is_input file && is_theory file) _ _ _ (both (is_input file) (is_theory file) h.0 h.1)
    (ap (λ (p : List ℕ). Link p file) e)
fits_read (Minimise packages input) s e h = passed (is_input input) _ _ _ h (ap (λ (p : List ℕ). Minimise p input) e)
fits_read (Sample n) s e h = sample_read s.article n _ h.0 h.1 (ap (λ (b : Bool). sample b n) e)
fits_read (SampleArticle n) s e h = sample_read s.article n _ h.0 h.1 (ap (λ (b : Bool). sample b n) e)
fits_read (Read packages input text) s e h =
    passed (is_input input && is_plain text) _ _ _ (both (is_input input) (is_plain text) h.0 h.1)
    (ap (λ (p : List ℕ). Read p input text) e)
fits_read (Prove packages input) s e h = passed (is_input input) _ _ _ h (ap (λ (p : List ℕ). Prove p input) e)
fits_read (Verify log) s e h = passed (is_input log) _ _ _ h refl
fits_read (Find packages pattern input) s e h =
    passed (is_plain pattern && is_input input) _ _ _ (both (is_plain pattern) (is_input input) h.0 h.1)
    (ap (λ (p : List ℕ). Find p pattern input) e)

-- a command's word names it
verb_read : (v : Verb) → verb_named (verb_word v) ≡ Some v
verb_read verb.Check = refl
verb_read verb.Info = refl
verb_read verb.Link = refl
verb_read verb.Minimise = refl
verb_read verb.Sample = refl
verb_read verb.Read = refl
verb_read verb.Prove = refl
verb_read verb.Verify = refl
verb_read verb.Find = refl

-- the command of a word that names it, of arguments that are read, whose options it takes
command_is : (v : Verb) (a : Arguments) (words : List (List ℕ)) → arguments words ≡ Some a → are_options v a.options
    ≡ true → command_of (verb_word v ∷ words) ≡ command_with v (settings_of a.options) a.operands
command_is v a words e taken =
    ap (option_and_then (λ u. option_and_then (command u) (arguments words))) (verb_read v)
    ∙ ap (option_and_then (command v)) e
    ∙ ap (λ (b : Bool). cond b (command_with v (settings_of a.options) a.operands) None) taken

reads : (words : List (List ℕ)) (c : CommandValue) → IsWrittenOut words c → command_of words ≡ Some c
reads words c w =
    ap command_of w.written
    ∙ command_is (verb_of c) (record { options = w.options; operands = operands_of c })
    (argument_words w.options (operands_of c))
    (arguments_read w.options (operands_of c) (begins_plain c w.operands)) w.taken
    ∙ fits_read c (settings_of w.options) w.settings w.operands

-- ---- what is read was written

-- the words are these arguments, written out
abbrev IsWritten : List (List ℕ) → Arguments → Type 0
IsWritten words a = words ≡ argument_words a.options a.operands

-- what is read was written, of words that are read so
abbrev WereWritten : List (List ℕ) → Option Arguments → Type 0
WereWritten words r = (rest : Arguments) → r ≡ Some rest → IsWritten words rest

-- an option before arguments that were written
before : (o : OptionValue) (front words : List (List ℕ)) (a : Arguments) (r : Option Arguments) → WereWritten words r
    → front ≡ option_words o → option_map (with_option o) r ≡ Some a → IsWritten (front ++ words) a
before o front words a None written spelt h = cc
before o front words a (Some rest) written spelt h =
    let same : with_option o rest ≡ a = cc in
    ap (λ (f : List (List ℕ)). f ++ words) spelt
    ∙ ap (λ (ws : List (List ℕ)). option_words o ++ ws) (written rest refl)
    ∙ ap (λ (g : Arguments). argument_words g.options g.operands) same

-- an option without a value before them, or an operand
flag_or_operand_written : (name : List ℕ) (words : List (List ℕ)) (a : Arguments) (s : Option OptionValue)
    (r : Option Arguments) → ((o : OptionValue) → s ≡ Some o → option_words o ≡ name ∷ []) → WereWritten words r
    → flag_or_operand s (name ∷ words) r ≡ Some a → IsWritten (name ∷ words) a
flag_or_operand_written name words a None r flag written h =
    let same : operands_alone (name ∷ words) ≡ a = cc in
    ap (λ (g : Arguments). argument_words g.options g.operands) same
flag_or_operand_written name words a (Some o) r flag written h =
    before o (name ∷ []) words a r written (sym (flag o refl)) h

-- a word more, by whether it is the option for the folder
last_word : (name : List ℕ) (a : Arguments) (b : Bool)
    → cond b None (flag_or_operand (flag_named name) (name ∷ []) (Some (operands_alone []))) ≡ Some a
    → IsWritten (name ∷ []) a
last_word name a true h = cc
last_word name a false h =
    flag_or_operand_written name [] a (flag_named name) (Some (operands_alone [])) (flag_spelled name)
    (λ rest e. let same : operands_alone [] ≡ rest = cc in
    ap (λ (g : Arguments). argument_words g.options g.operands) same) h

one_more : (name next : List ℕ) (words : List (List ℕ)) (a : Arguments) (b : Bool) (r r' : Option Arguments)
    → (b ≡ true → name ≡ packages_name) → WereWritten words r → WereWritten (next ∷ words) r'
    → cond b (option_map (with_option (Packages next)) r) (flag_or_operand (flag_named name) (name ∷ next ∷ words) r')
    ≡ Some a → IsWritten (name ∷ next ∷ words) a
one_more name next words a true r r' folder written written' h =
    before (Packages next) (name ∷ next ∷ []) words a r written (ap (λ (n : List ℕ). n ∷ next ∷ []) (folder refl)) h
one_more name next words a false r r' folder written written' h =
    flag_or_operand_written name (next ∷ words) a (flag_named name) r' (flag_spelled name) written' h

was_written : (words : List (List ℕ)) → WereWritten words (arguments words)
was_written [] a h =
    let same : operands_alone [] ≡ a = cc in
    ap (λ (g : Arguments). argument_words g.options g.operands) same
was_written (name ∷ []) a h = last_word name a (bytes_eq name packages_name) h
was_written (name ∷ next ∷ words) a h =
    one_more name next words a (bytes_eq name packages_name) (arguments words) (arguments (next ∷ words))
    (bytes_eq-Decides name packages_name).0 (was_written words) (was_written (next ∷ words)) h

-- ---- the command of what was read

-- what options ask for and operands are a command's
record Fits (v : Verb) (s : SettingsValue) (operands : List (List ℕ)) (c : CommandValue) : Type 0 where
  same_verb : v ≡ verb_of c
  same_operands : operands ≡ operands_of c
  settings : FitsSettings s c
  fits : FitsOperands c

-- a command whose test passed
chosen : (v : Verb) (s : SettingsValue) (operands : List (List ℕ)) (b : Bool) (c d : CommandValue)
    → (b ≡ true → Fits v s operands d) → cond b (Some d) None ≡ Some c → Fits v s operands c
chosen v s operands true c d here h = let same : d ≡ c = cc in subst (Fits v s operands) same (here refl)
chosen v s operands false c d here h = cc

first : (a b : Bool) → (a && b) ≡ true → a ≡ true
first true b h = refl
first false b h = h

second : (a b : Bool) → (a && b) ≡ true → b ≡ true
second true b h = h
second false b h = cc

-- what is shown of an input, by whether it is what its theorems rest on, or readable text, and whether a section is
-- named
info_fits : (s : SettingsValue) (input : List ℕ) (c : CommandValue) (test uses readable named : Bool)
    → is_input input ≡ test → s.uses ≡ uses → s.readable ≡ readable → names_any s.sections ≡ named
    → cond test (cond (not (uses || readable)) (Some (Info (packages_of s) input (shown s.sections)))
    (cond (named || (uses && readable)) None
    (Some (cond uses (Uses (packages_of s) input) (Readable (packages_of s) input))))) None ≡ Some c
    → Fits verb.Info s (input ∷ []) c
info_fits s input c false uses readable named is asks reads names h = cc
info_fits s input c true false false named is asks reads names h =
    let same : Info (packages_of s) input (shown s.sections) ≡ c = cc in
    subst (Fits verb.Info s (input ∷ [])) same
    (record { same_verb = refl; same_operands = refl; settings = (refl, refl, asks, reads); fits = is })
info_fits s input c true true false false is asks reads names h =
    let same : Uses (packages_of s) input ≡ c = cc in
    subst (Fits verb.Info s (input ∷ [])) same
    (record { same_verb = refl; same_operands = refl; settings = (refl, asks, reads, names); fits = is })
info_fits s input c true false true false is asks reads names h =
    let same : Readable (packages_of s) input ≡ c = cc in
    subst (Fits verb.Info s (input ∷ [])) same
    (record { same_verb = refl; same_operands = refl; settings = (refl, asks, reads, names); fits = is })
info_fits s input c true true true false is asks reads names h = cc
info_fits s input c true true readable true is asks reads names h = cc
info_fits s input c true false true true is asks reads names h = cc

-- a sample of the number that was found
sample_fits : (s : SettingsValue) (operand : List ℕ) (c : CommandValue) (article : Bool) (r : Option ℕ) → s.article
    ≡ article → count_of operand ≡ r → option_map (sample article) r ≡ Some c → Fits verb.Sample s (operand ∷ []) c
sample_fits s operand c article None asks e h = cc
sample_fits s operand c true (Some n) asks e h =
    let same : SampleArticle n ≡ c = cc in
    let number : (1 ≤ n) × (n ≤ 1000) × (operand ≡ decimal n) = found 1000 n operand e in
    subst (Fits verb.Sample s (operand ∷ [])) same
    (record {
      same_verb = refl;
      same_operands = ap (λ (o : List ℕ). o ∷ []) number.2;
      settings = asks;
      fits = (number.0, number.1);
    })
sample_fits s operand c false (Some n) asks e h =
    let same : Sample n ≡ c = cc in
    let number : (1 ≤ n) × (n ≤ 1000) × (operand ≡ decimal n) = found 1000 n operand e in
    subst (Fits verb.Sample s (operand ∷ [])) same
    (record {
      same_verb = refl;
      same_operands = ap (λ (o : List ℕ). o ∷ []) number.2;
      settings = asks;
      fits = (number.0, number.1);
    })

on_one : (v : Verb) (s : SettingsValue) (operand : List ℕ) (c : CommandValue) → command_on v s operand ≡ Some c
    → Fits v s (operand ∷ []) c
on_one verb.Check s input c =
    chosen verb.Check s (input ∷ []) (is_input input) c (Check (packages_of s) input)
    (λ h. record { same_verb = refl; same_operands = refl; settings = refl; fits = h })
on_one verb.Info s input c = info_fits s input c (is_input input) s.uses s.readable (names_any s.sections) refl refl
    refl refl
on_one verb.Link s file c =
    chosen verb.Link s (file ∷ []) (is_input file && is_theory file) c (Link (packages_of s) file)
    (λ h. record {
      same_verb = refl;
      same_operands = refl;
      settings = refl;
      fits = (first (is_input file) _ h, second (is_input file) _ h);
    })
on_one verb.Minimise s input c =
    chosen verb.Minimise s (input ∷ []) (is_input input) c (Minimise (packages_of s) input)
    (λ h. record { same_verb = refl; same_operands = refl; settings = refl; fits = h })
on_one verb.Sample s operand c = sample_fits s operand c s.article _ refl refl
on_one verb.Prove s input c =
    chosen verb.Prove s (input ∷ []) (is_input input) c (Prove (packages_of s) input)
    (λ h. record { same_verb = refl; same_operands = refl; settings = refl; fits = h })
on_one verb.Verify s log c =
    chosen verb.Verify s (log ∷ []) (is_input log) c (Verify log)
    (λ h. record { same_verb = refl; same_operands = refl; settings = tt; fits = h })
on_one verb.Read s operand c = λ h. cc
on_one verb.Find s operand c = λ h. cc

on_two : (v : Verb) (s : SettingsValue) (one two : List ℕ) (c : CommandValue) → command_on_two v s one two ≡ Some c
    → Fits v s (one ∷ two ∷ []) c
on_two verb.Check s one two c = λ h. cc
on_two verb.Info s one two c = λ h. cc
on_two verb.Link s one two c = λ h. cc
on_two verb.Minimise s one two c = λ h. cc
on_two verb.Sample s one two c = λ h. cc
on_two verb.Prove s one two c = λ h. cc
on_two verb.Verify s one two c = λ h. cc
on_two verb.Read s input text c =
    chosen verb.Read s (input ∷ text ∷ []) (is_input input && is_plain text) c (Read (packages_of s) input text)
    (λ h. record {
      same_verb = refl;
      same_operands = refl;
      settings = refl;
      fits = (first (is_input input) _ h, second (is_input input) _ h);
    })
on_two verb.Find s pattern input c =
    chosen verb.Find s (pattern ∷ input ∷ []) (is_plain pattern && is_input input) c
    (Find (packages_of s) pattern input)
    (λ h. record {
      same_verb = refl;
      same_operands = refl;
      settings = refl;
      fits = (first (is_plain pattern) _ h, second (is_plain pattern) _ h);
    })

command_fits : (v : Verb) (s : SettingsValue) (operands : List (List ℕ)) (c : CommandValue)
    → command_with v s operands ≡ Some c → Fits v s operands c
command_fits v s [] c h = cc
command_fits v s (operand ∷ []) c h = on_one v s operand c h
command_fits v s (one ∷ two ∷ []) c h = on_two v s one two c h
command_fits v s (one ∷ two ∷ next ∷ operands) c h = cc

-- ---- commands

-- a word that names a command is the command's, whichever of the tests finds it
abbrev Names : List ℕ → Option Verb → Type 0
Names word r = (v : Verb) → r ≡ Some v → word ≡ verb_word v

names_first : (word : List ℕ) (v : Verb) (b : Bool) (r : Option Verb) → (b ≡ true → word ≡ verb_word v) → Names word r
    → Names word (cond b (Some v) r)
names_first word v true r is other u h = let same : v ≡ u = cc in is refl ∙ ap verb_word same
names_first word v false r is other u h = other u h

named : (word : List ℕ) → Names word (verb_named word)
named word =
    names_first word verb.Check _ _ (bytes_eq-Decides word (codes "check")).0
    (names_first word verb.Info _ _ (bytes_eq-Decides word (codes "info")).0
    (names_first word verb.Link _ _ (bytes_eq-Decides word (codes "link")).0
    (names_first word verb.Minimise _ _ (bytes_eq-Decides word (codes "minimise")).0
    (names_first word verb.Sample _ _ (bytes_eq-Decides word (codes "sample")).0
    (names_first word verb.Read _ _ (bytes_eq-Decides word (codes "read")).0
    (names_first word verb.Prove _ _ (bytes_eq-Decides word (codes "prove")).0
    (names_first word verb.Verify _ _ (bytes_eq-Decides word (codes "verify")).0
    (names_first word verb.Find _ _ (bytes_eq-Decides word (codes "find")).0 (λ v h. cc)))))))))

-- words that are a command's word and arguments
writes_given : (v : Verb) (words : List (List ℕ)) (c : CommandValue) (a : Arguments) (b : Bool)
    → arguments words ≡ Some a → are_options v a.options ≡ b
    → cond b (command_with v (settings_of a.options) a.operands) None ≡ Some c → IsWrittenOut (verb_word v ∷ words) c
writes_given v words c a false e taken h = cc
writes_given v words c a true e taken h =
    let f : Fits v (settings_of a.options) a.operands c = command_fits v (settings_of a.options) a.operands c h in
    record {
      options = a.options;
      written = ap (λ (ws : List (List ℕ)). verb_word v ∷ ws) (was_written words a e)
          ∙ ap (λ (w : Verb). verb_word w ∷ argument_words a.options a.operands) f.same_verb
          ∙ ap (λ (o : List (List ℕ)). verb_word (verb_of c) ∷ argument_words a.options o) f.same_operands;
      taken = ap (λ (w : Verb). are_options w a.options) (sym f.same_verb) ∙ taken;
      settings = f.settings;
      operands = f.fits;
    }

writes_behind : (v : Verb) (words : List (List ℕ)) (c : CommandValue) (r : Option Arguments) → arguments words ≡ r
    → option_and_then (command v) r ≡ Some c → IsWrittenOut (verb_word v ∷ words) c
writes_behind v words c None e h = cc
writes_behind v words c (Some a) e h = writes_given v words c a (are_options v a.options) e refl h

writes_named : (word : List ℕ) (words : List (List ℕ)) (c : CommandValue) (r : Option Verb) → Names word r
    → option_and_then (λ v. option_and_then (command v) (arguments words)) r ≡ Some c → IsWrittenOut (word ∷ words) c
writes_named word words c None is h = cc
writes_named word words c (Some v) is h =
    subst (λ (w : List ℕ). IsWrittenOut (w ∷ words) c) (sym (is v refl)) (writes_behind v words c (arguments words) refl h)

writes : (words : List (List ℕ)) (c : CommandValue) → command_of words ≡ Some c → IsWrittenOut words c
writes [] c h = cc
writes (word ∷ words) c h = writes_named word words c (verb_named word) (named word) h

pub is_read : (words : List (List ℕ)) (c : CommandValue) → IsRead words c
is_read words c = (writes words c, reads words c)

-- what the code answers has operands that it may have
pub operands_fit : (words : List (List ℕ)) (r : Result Command Usage) → command_answer r ≡ command_of words
    → IfOk r (λ c. FitsOperands (command_value c))
operands_fit words (Ok c) h = (writes words (command_value c) (sym h)).operands
operands_fit words (Err e) h = tt
