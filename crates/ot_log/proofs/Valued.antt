-- The values of operands, where there are all.
use Rattle.std.proofs.Common.{◌≡◌, List, [], ◌∷◌, Result, Ok, refl, sym, ap, ◌∙◌}
use Rattle.ot_logic.specs.Names.{Name}
use Rattle.ot_logic.specs.Faults.{Fault}
use Rattle.ot_logic.specs.Answers.{◌>>=◌}
use Rattle.ot_logic.specs.declared.command.Cmd.{Cmd}
use Rattle.ot_trace.specs.Origins.{Origin, Origins, Make, NoOrigins, MoreOrigins}
use Rattle.ot_machine.specs.Objects.{Object, Objects, list}
use Rattle.ot_machine.specs.Places.{as_list}
use Rattle.ot_machine.specs.Makers.{maker}
use Rattle.ot_machine.specs.Values.{value, values, applied}
use Rattle.ot_log_values.specs.Steps.{Makes}
use Rattle.ot_log_values.specs.Lists.{ReadsAs}
use Rattle.ot_log_words.specs.Recording.{HasResult}
use Rattle.ot_logic.proofs.Results.{bind-ok, same_Ok}

pub has-values : (w : Cmd) (os : Origins Name) → HasResult (value (Make w os)) → HasResult (values os)
has-values w os h = let (vs, p, k) = bind-ok (values os) _ h.0 h.1 in (vs, p)

pub has-applied : (w : Cmd) (os : Origins Name) (vs : List Object) → values os ≡ Ok vs → HasResult (value (Make w os))
    → HasResult (applied (maker w) vs)
has-applied w os vs e h = (h.0, sym (ap (λ r. r >>= applied (maker w)) e) ∙ h.1)

pub has-first : (o : Origin Name) (os : Origins Name) → HasResult (values (MoreOrigins o os)) → HasResult (value o)
has-first o os h = let (v, p, k) = bind-ok (value o) _ h.0 h.1 in (v, p)

pub has-rest : (o : Origin Name) (os : Origins Name) → HasResult (values (MoreOrigins o os)) → HasResult (values os)
has-rest o os h =
    let (v, p, k) = bind-ok (value o) _ h.0 h.1 in
    let (vs, q, l) = bind-ok (values os) _ h.0 k in
    (vs, q)

pub none-are : HasResult (values NoOrigins) → values NoOrigins ≡ Ok []
none-are h = refl

-- one operand more, whose value would be this
pub more-are : (o : Origin Name) (os : Origins Name) (x : Object) (xs : List Object) → Makes o x
    → (HasResult (values os) → values os ≡ Ok xs) → HasResult (values (MoreOrigins o os))
    → values (MoreOrigins o os) ≡ Ok (x ∷ xs)
more-are o os x xs m f h =
    let (v, p, k) = bind-ok (value o) _ h.0 h.1 in
    ap (λ r. r >>= λ v. values os >>= λ vs. Ok (v ∷ vs)) p ∙ ap (λ r. r >>= λ vs. Ok (v ∷ vs)) (f (has-rest o os h))
    ∙ ap (λ z. Ok (z ∷ xs)) (m.is v p)

-- what a list reads as
list-of : {A : Type 0} (read : Objects → Result A (Fault Name)) (v : Object) (x : A) → (as_list v >>= read) ≡ Ok x
    → (os : Objects) × (v ≡ list os) × (read os ≡ Ok x)
list-of read (list os) x h = (os, refl, h)
list-of read _ x h = absurd (cc)

pub reads-list : {A : Type 0} (read : Objects → Result A (Fault Name)) (o : Origin Name) (x : A) → ReadsAs read o x
    → HasResult (value o) → (os : Objects) × Makes o (list os) × (read os ≡ Ok x)
reads-list read o x r h =
    let l = list-of read h.0 x (r.is h.0 h.1) in
    (l.0, record { is = λ v p. same_Ok v h.0 (sym p ∙ h.1) ∙ l.1 }, l.2)

pub its-value : (o : Origin Name) (v : Object) → value o ≡ Ok v → Makes o v
its-value o v e = record { is = λ x p. same_Ok x v (sym p ∙ e) }
