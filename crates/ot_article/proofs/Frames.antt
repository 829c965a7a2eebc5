-- What the machine reads and takes on a stack that ends with some entries.
use Rattle.std.proofs.Common.{◌≡◌, ℕ, suc, ◌+◌, ◌-◌, ◌<◌, true, List, [], ◌∷◌, ◌++◌, length}
use Rattle.std.proofs.Common.{map, slice_get, Some, Ok, refl, ap, ◌∙◌, arith, length-append}
use Rattle.std.proofs.lemmas.List.{take_at, drop_at}
use Rattle.std.proofs.lemmas.Bool.Decides.{nat_tests}
use Rattle.std.specs.Prelude.{nat_lt}
use Rattle.ot_logic.specs.Names.{Name}
use Rattle.ot_logic.specs.Faults.{StackEmpty}
use Rattle.ot_logic.specs.Answers.{some_or}
use Rattle.ot_trace.specs.Origins.{Origin}
use Rattle.ot_machine.specs.Objects.{Object}
use Rattle.ot_machine.specs.States.{Entry}
use Rattle.ot_machine.specs.Places.{entry_at, object_at, dropped, top, origins_of}
use Rattle.ot_machine.specs.Makers.{Maker, of_none, of_top, of_two, no_maker, maker, arity, made_by}
use Rattle.ot_machine.specs.Rows.{made, making}
use Rattle.ot_article.proofs.Operands.{made_of}
use Rattle.ot_logic.specs.declared.command.Cmd.{Cmd}
use Rattle.ot_trace.specs.Origins as o

-- the objects of entries
abbrev pub objects_of : List Entry → List Object
objects_of = map (λ e. e.object)

abbrev pub entry : Object → Origin Name → Entry
entry v p = record { object = v; origin = p }

get-later : {X : Type 0} (s vs : List X) (i : ℕ) → slice_get (s ++ vs) (length s + i) ≡ slice_get vs i
get-later [] vs i = let e : 0 + i ≡ i = omega arith in ap (slice_get vs) e
get-later (x ∷ s) vs i = let e : suc (length s) + i ≡ suc (length s + i) = omega arith in
    ap (slice_get (x ∷ s ++ vs)) e ∙ get-later s vs i

pub entry-here : (st es : List Entry) (n : ℕ) (e : Entry) → n < length es → slice_get es (length es - suc n) ≡ Some e
    → entry_at n (st ++ es) ≡ Ok e
entry-here st es n e h p =
    let long = length-append st es in
    let there : nat_lt n (length (st ++ es)) ≡ true = grind (arith, nat_tests) in
    let place : length (st ++ es) - suc n ≡ length st + (length es - suc n) = omega arith in
    rw there (ap (some_or StackEmpty) (ap (slice_get (st ++ es)) place ∙ get-later st es (length es - suc n) ∙ p))

pub object-here : (st es : List Entry) (n : ℕ) (e : Entry) → n < length es → slice_get es (length es - suc n) ≡ Some e
    → object_at n (st ++ es) ≡ Ok e.object
object-here st es n e h p = rw (entry-here st es n e h p) refl

pub dropped-here : (st es : List Entry) (n : ℕ) → length es ≡ n → dropped n (st ++ es) ≡ st
dropped-here st es n h =
    let long = length-append st es in
    let cut : length st ≡ length (st ++ es) - n = omega arith in
    take_at st es (length (st ++ es) - n) cut

pub top-here : (st es : List Entry) (n : ℕ) → length es ≡ n → top n (st ++ es) ≡ es
top-here st es n h =
    let long = length-append st es in
    let cut : length st ≡ length (st ++ es) - n = omega arith in
    drop_at st es (length (st ++ es) - n) cut

-- what a maker reads on the stack are its operands
pub by-made : (m : Maker) (st es : List Entry) (v : Object) → made_of m (objects_of es) ≡ Ok v
    → (made_by m (λ n. object_at n (st ++ es)) ≡ Ok v) × (length es ≡ arity m)
by-made (of_none p) st [] v h = (h, refl)
by-made (of_none p) st (e ∷ es) v h = absurd (cc)
by-made (of_top f) st [] v h = absurd (cc)
by-made (of_top f) st (e ∷ []) v h = (ap f (object-here st (e ∷ []) 0 e (omega arith) refl) ∙ h, refl)
by-made (of_top f) st (e ∷ d ∷ es) v h = absurd (cc)
by-made (of_two f) st [] v h = absurd (cc)
by-made (of_two f) st (e ∷ []) v h = absurd (cc)
by-made (of_two f) st (e ∷ d ∷ []) v h = (
  ap (λ r. f r (object_at 1 (st ++ e ∷ d ∷ []))) (object-here st (e ∷ d ∷ []) 0 d (omega arith) refl)
      ∙ ap (f (Ok d.object)) (object-here st (e ∷ d ∷ []) 1 e (omega arith) refl) ∙ h,
  refl,
)
by-made (of_two f) st (e ∷ d ∷ c ∷ es) v h = absurd (cc)
by-made no_maker st es v h = absurd (cc)

pub making-here : (w : Cmd) (st es : List Entry) (v : Object) → made_of (maker w) (objects_of es) ≡ Ok v
    → making w (st ++ es) ≡ Ok (st ++ entry v (o.Make w (origins_of es)) ∷ [])
making-here w st es v h =
    let b = by-made (maker w) st es v h in
    let t : top (arity (maker w)) (st ++ es) ≡ es = top-here st es (arity (maker w)) b.1 in
    let d : dropped (arity (maker w)) (st ++ es) ≡ st = dropped-here st es (arity (maker w)) b.1 in
    let m : made w (st ++ es) ≡ Ok (entry v (o.Make w (origins_of es))) =
    rw b.0 (ap (λ l. Ok (entry v (o.Make w (origins_of l)))) t) in
    rw m (ap (λ l. Ok (l ++ entry v (o.Make w (origins_of es)) ∷ [])) d)
