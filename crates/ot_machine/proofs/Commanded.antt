-- A line that passes leads on.
use Rattle.std.proofs.Common.{◌≡◌, Bool, true, false, cond, List, [], ◌∷◌, ◌++◌, ap, subst, ◌∙◌, refl, ℕ}
use Rattle.std.specs.Prelude.{ℤ, Option, Some, None, Result, Ok, Err, is_some}
use Rattle.std.specs.List.{AllByRecursion}
use Rattle.ot_logic.specs.Names.{Name}
use Rattle.ot_logic.specs.Faults.{Fault, BadName, NumberRange}
use Rattle.ot_logic.specs.Answers.{◌>>=◌}
use Rattle.ot_logic.specs.Reading.{name_read}
use Rattle.ot_logic.specs.declared.command.Cmd.{Cmd}
use Rattle.ot_logic.specs.Commands as spellings
use Rattle.ot_scan.specs.Lines.{IsLineText}
use Rattle.ot_scan.specs.Words.{WordValue, Numeral, Quoted, Order, is_in_range}
use Rattle.ot_scan.specs.Words.{word, name_word, number_word, number, command_word}
use Rattle.ot_machine.specs.States.{State, Context}
use Rattle.ot_machine.specs.Step.{step}
use Rattle.ot_machine.specs.Run.{line_step}
use Rattle.ot_machine.specs.Commanded.{CanBeSaid, steps, LeadsTo}
use Rattle.ot_logic.proofs.Elements.{AllByRecursion-push}

-- ---- the word of a line

abbrev gives : {X : Type 0} → X → Result X (Fault Name)
gives x = Ok x

ok-same : {X : Type 0} (x y : X) → gives x ≡ gives y → x ≡ y
ok-same x y e = cc

said : (w v : WordValue) → CanBeSaid w → gives w ≡ gives v → CanBeSaid v
said w v h e = subst CanBeSaid (ok-same w v e) h

either : (b : Bool) (x y : Result WordValue (Fault Name)) (w : WordValue) → (x ≡ Ok w → CanBeSaid w)
    → (y ≡ Ok w → CanBeSaid w) → cond b x y ≡ Ok w → CanBeSaid w
either true x y w f g e = f e
either false x y w f g e = g e

said-name : (text : List ℕ) (w : WordValue) → IsLineText text → name_word text ≡ Ok w → CanBeSaid w
said-name text w h = either (is_some (name_read text)) (Ok (Quoted text)) (Err BadName) w (said (Quoted text) w h)
    (λ e. cc)

said-in-range : (z : ℤ) (w : WordValue) (b : Bool) → is_in_range z ≡ b → cond b (gives (Numeral z)) (Err NumberRange)
    ≡ gives w → CanBeSaid w
said-in-range z w true r e = said (Numeral z) w r e
said-in-range z w false r e = cc

said-number : (o : Option ℤ) (w : WordValue) → number_word o ≡ Ok w → CanBeSaid w
said-number None w e = cc
said-number (Some z) w e = said-in-range z w (is_in_range z) refl e

said-order : (o : Option Cmd) (w : WordValue) → command_word o ≡ Ok w → CanBeSaid w
said-order None w e = cc
said-order (Some c) w e = said (Order c) w tt e

said-word : (text : List ℕ) (w : WordValue) → IsLineText text → word text ≡ Ok w → CanBeSaid w
said-word [] w h e = cc
said-word (b ∷ bs) w h e =
    either _ (name_word (b ∷ bs)) _ w (said-name (b ∷ bs) w h)
    (either _ (number_word (number (b ∷ bs))) (command_word (spellings.command_of (b ∷ bs))) w
    (said-number (number (b ∷ bs)) w) (said-order (spellings.command_of (b ∷ bs)) w)) e

-- ---- one word more

then-more : (c : Context) (w : WordValue) (t u : State) (r : Result State (Fault Name)) (f g : State
    → Result State (Fault Name)) → ((x : State) → f x ≡ Ok t → g x ≡ Ok u) → r >>= f ≡ Ok t → r >>= g ≡ Ok u
then-more c w t u (Ok x) f g h e = h x e
then-more c w t u (Err x) f g h e = cc

last-step : (c : Context) (w : WordValue) (s t u : State) → gives s ≡ gives t → step c t w ≡ Ok u
    → step c s w >>= steps c [] ≡ Ok u
last-step c w s t u e h = ap (λ r. r >>= steps c []) (ap (λ x. step c x w) (ok-same s t e) ∙ h)

steps-more : (c : Context) (ws : List WordValue) (w : WordValue) (s t u : State) → steps c ws s ≡ Ok t
    → step c t w ≡ Ok u → steps c (ws ++ w ∷ []) s ≡ Ok u
steps-more c [] w s t u e h = last-step c w s t u e h
steps-more c (v ∷ vs) w s t u e h = then-more c w t u (step c s v) (steps c vs) (steps c (vs ++ w ∷ []))
    (λ x k. steps-more c vs w x t u k h) e

leads-word : (c : Context) (s t u : State) (text : List ℕ) (r : Result WordValue (Fault Name)) → IsLineText text
    → word text ≡ r → LeadsTo c s t → r >>= step c t ≡ Ok u → LeadsTo c s u
leads-word c s t u text (Ok w) h q l e =
    record {
      words = l.words ++ w ∷ [];
      said = AllByRecursion-push CanBeSaid l.words w l.said (said-word text w h q);
      passed = steps-more c l.words w s t u l.passed e;
    }
leads-word c s t u text (Err x) h q l e = cc

pub leads-line : (c : Context) (s t u : State) (text : List ℕ) → IsLineText text → LeadsTo c s t
    → line_step c t text ≡ Ok u → LeadsTo c s u
leads-line c s t u text h l e = leads-word c s t u text (word text) h refl l e

-- ---- what each step keeps is kept
then-kept : (P : State → Type 0) (t : State) (r : Result State (Fault Name)) (f : State → Result State (Fault Name))
    → ((x : State) → r ≡ Ok x → f x ≡ Ok t → P t) → r >>= f ≡ Ok t → P t
then-kept P t (Ok x) f h e = h x refl e
then-kept P t (Err x) f h e = cc

steps-keep : (P : State → Type 0) (c : Context)
    → ((s t : State) (w : WordValue) → CanBeSaid w → P s → step c s w ≡ Ok t → P t) → (ws : List WordValue)
    → AllByRecursion CanBeSaid ws → (s t : State) → P s → steps c ws s ≡ Ok t → P t
steps-keep P c keeps [] said s t p e = subst P (ok-same s t e) p
steps-keep P c keeps (w ∷ ws) said s t p e =
    then-kept P t (step c s w) (steps c ws) (λ x h k. steps-keep P c keeps ws said.1 x t (keeps s x w said.0 p h) k) e

pub leads-keeps : (P : State → Type 0) (c : Context)
    → ((s t : State) (w : WordValue) → CanBeSaid w → P s → step c s w ≡ Ok t → P t) → (s t : State) → LeadsTo c s t
    → P s → P t
leads-keeps P c keeps s t l p = steps-keep P c keeps l.words l.said s t p l.passed
