-- A list that a record asks for, element after element; and two things that are asked for together.
use Rattle.std.specs.Prelude.{Result, Ok, Err, IsErrAnd, Option}
use Rattle.std.proofs.Common.{◌≡◌, ℕ, suc, List, [], ◌∷◌, ◌++◌, sym, ap, subst, ◌∙◌, append_assoc, arith}
use Rattle.std.proofs.lemmas.List.{append-nil}
use Rattle.ot_logic.specs.Names.{Name}
use Rattle.ot_logic.specs.Naming.{names}
use Rattle.ot_logic.specs.RanOut.{ran_out}
use Rattle.ot_log_format.specs.State.{LogState}
use Rattle.ot_log_format.specs.Records.{RecordForm, AskCount, ask_each, ask_list}
use Rattle.ot_verify.specs.Taking.{Rest}
use Rattle.ot_verify.specs.Asking.{outcome_in, GoesOnWith, StopsWith, AnsweredFrom}
use Rattle.ot_verify.specs.Asking.{IsValue, AreEach, GoesOnAfter, CollectsFrom}
use Rattle.ot_verify.specs.Going.{Advances}
use Rattle.ot_verify.specs.declared.reader.Reader.{Reader}
use Rattle.ot_verify.specs.declared.fault.VerifyFault.{VerifyFault}
use Rattle.ot_verify.specs.declared.fault.VerifyFault.TheVariants as verify
use Rattle.ot_verify.proofs.Tokens.{tokens-then, tokens-map}

-- ---- items, one for one
module _ {X A : Type 0} where
  pub each-more : (is is' : X → A → Type 0) → ((x : X) (y : A) → is x y → is' x y) → (xs : List X) (ys : List A)
      → AreEach is xs ys → AreEach is' xs ys
  each-more is is' more [] [] h = tt
  each-more is is' more (x ∷ xs) (y ∷ ys) h = (more x y h.0, each-more is is' more xs ys h.1)
  each-more is is' more [] (y ∷ ys) h = absurd h
  each-more is is' more (x ∷ xs) [] h = absurd h

  pub each-push : (is : X → A → Type 0) (xs : List X) (ys : List A) (x : X) (y : A) → AreEach is xs ys → is x y
      → AreEach is (xs ++ x ∷ []) (ys ++ y ∷ [])
  each-push is [] [] x y h e = (e, tt)
  each-push is (z ∷ xs) (u ∷ ys) x y h e = (h.0, each-push is xs ys x y h.1 e)
  each-push is [] (u ∷ ys) x y h e = absurd h
  each-push is (z ∷ xs) [] x y h e = absurd h

-- ---- what is said of lists, over what is left

module _ {A : Type 0} (st : LogState Name) (ask : (A → RecordForm names) → RecordForm names) where
  -- with one more
  goes-after : (us : List A) (y : A) (k : ℕ) (o r s : Rest) → GoesOnAfter st ask us (suc k) o r
      → GoesOnWith st ask y r s → GoesOnAfter st ask (us ++ y ∷ []) k o s
  goes-after us y k o r s g h = λ first next.
      g first next
      ∙ h first (λ z. ask_each ask k (λ vs. next (us ++ (z ∷ vs))))
      ∙ ap (λ (f : List A → RecordForm names). outcome_in first st (ask_each ask k f) s)
      (λ i vs. next (sym (append_assoc us (y ∷ []) vs) i))

  -- an item that was not read
  stops-after : (f : VerifyFault) (us : List A) (k : ℕ) (o r : Rest) → GoesOnAfter st ask us (suc k) o r
      → StopsWith st ask f r → StopsWith st (ask_list ask) f o
  stops-after (verify.At line f) us k o r g h = λ first next.
      g first next ∙ h first (λ z. ask_each ask k (λ vs. next (us ++ (z ∷ vs))))
  stops-after verify.ReadFault us k o r g h = tt
  stops-after (verify.Memory memory) us k o r g h = tt

  -- a count that was not read
  stops-count : (e : VerifyFault) (o : Rest) → StopsWith st AskCount e o → StopsWith st (ask_list ask) e o
  stops-count (verify.At line f) o h = λ first next. h first (λ k. ask_each ask k next)
  stops-count verify.ReadFault o h = tt
  stops-count (verify.Memory memory) o h = tt

-- ---- over a source

module _ {A X : Type 0} {st : LogState Name} (ask : (A → RecordForm names) → RecordForm names) where
  -- the count was read
  pub collects-start : {is : X → A → Type 0} {xs : List X} {n k : ℕ} {old new : Reader} {l m : Option (List ℕ)}
      → xs ≡ [] → n ≡ k → AnsweredFrom st AskCount IsValue (Ok n) old new l m → CollectsFrom st ask is xs k old new l m
  collects-start {is = is} none e a =
      let (j, same, reads) = a.answer in
      record {
        items = [];
        each = subst (λ ys. AreEach is ys []) (sym none) tt;
        tokens = tokens-map reads
            (λ o r g. λ first next. g first (λ i. ask_each ask i next)
            ∙ ap (λ i. outcome_in first st (ask_each ask i next) r) (sym same ∙ e));
      }

  -- one more
  pub collects-next : {is is' : X → A → Type 0} {now : LogState Name} {xs ys : List X} {x : X} {j k : ℕ}
      {old mid new : Reader} {l m n : Option (List ℕ)}
      → ((x : X) (y : A) → is x y → is' x y) → now ≡ st → ys ≡ xs ++ x ∷ [] → j ≡ suc k
      → CollectsFrom st ask is xs j old mid l m → AnsweredFrom now ask is' (Ok x) mid new m n
      → CollectsFrom st ask is' ys k old new l n
  collects-next {is = is} {is' = is'} {xs = xs} {x = x} {k = k} more same longer e c a =
      let (y, found, reads) = a.answer in
      record {
        items = c.items ++ y ∷ [];
        each = subst (λ zs. AreEach is' zs (c.items ++ y ∷ [])) (sym longer)
            (each-push is' xs c.items x y (each-more is is' more xs c.items c.each) found);
        tokens = tokens-then c.tokens reads
            (λ o r s g h. goes-after st ask c.items y k o r s (subst (λ i. GoesOnAfter st ask c.items i o r) e g)
            (subst (λ t. GoesOnWith t ask y r s) same h));
      }

  -- all of them
  pub collects-end : {V : Type 0} {is : X → A → Type 0} {k : ℕ} {old new : Reader} {l m : Option (List ℕ)}
      (items : V → List X) (v : V) → k ≡ 0 → CollectsFrom st ask is (items v) k old new l m
      → AnsweredFrom st (ask_list ask) (λ (v : V). AreEach is (items v)) (Ok v) old new l m
  collects-end items v e c = record {
    answer = (
      c.items,
      c.each,
      tokens-map c.tokens (λ o r g. λ first next. g first next
          ∙ ap (λ i. outcome_in first st (ask_each ask i (λ us. next (c.items ++ us))) r) e
          ∙ ap (λ ys. outcome_in first st (next ys) r) (append-nil c.items)),
    );
    stop = tt;
  }

  -- one that was not read
  pub collects-stop : {Y Z : Type 0} {now : LogState Name} {is : X → A → Type 0} {xs : List X} {j k : ℕ}
      {fault : VerifyFault} {old mid new : Reader} {l m n : Option (List ℕ)}
      {at : Z → A → Type 0} {these : Y → List A → Type 0} (q : Result Y VerifyFault)
      → IsErrAnd q (λ f. f ≡ fault) → now ≡ st → j ≡ suc k → CollectsFrom st ask is xs j old mid l m
      → AnsweredFrom now ask at (Err fault) mid new m n
      → AnsweredFrom st (ask_list ask) these q old new l n
  collects-stop (Ok y) handed same e c a = absurd handed
  collects-stop {k = k} {fault = fault} (Err f) handed same e c a = record {
    answer = tt;
    stop = tokens-then c.tokens a.stop
        (λ o r s g h. subst (λ d. StopsWith st (ask_list ask) d o) (sym handed)
        (stops-after st ask fault c.items k o r (subst (λ i. GoesOnAfter st ask c.items i o r) e g)
        (subst (λ t. StopsWith t ask fault r) same h)));
  }

  -- one that was read, and not kept for want of memory
  pub collects-memory : {Y : Type 0} {now : LogState Name} {is is' : X → A → Type 0} {xs : List X} {x : X} {k : ℕ}
      {old mid new : Reader} {l m n : Option (List ℕ)} {these : Y → List A → Type 0} (q : Result Y VerifyFault)
      → IsErrAnd q (λ f. f ≡ verify.Memory ran_out) → CollectsFrom st ask is xs k old mid l m
      → AnsweredFrom now ask is' (Ok x) mid new m n → AnsweredFrom st (ask_list ask) these q old new l n
  collects-memory (Ok y) handed c a = absurd handed
  collects-memory (Err f) handed c a = record {
    answer = tt;
    stop = tokens-then c.tokens a.answer.2
        (λ o r s g h. subst (λ d. StopsWith st (ask_list ask) d o) (sym handed) tt);
  }

-- the count was not read
module _ {A : Type 0} {st : LogState Name} (ask : (A → RecordForm names) → RecordForm names) where
  pub collects-none : {Y : Type 0} {e : VerifyFault} {old new : Reader} {l m : Option (List ℕ)}
      {these : Y → List A → Type 0} (q : Result Y VerifyFault) → IsErrAnd q (λ f. f ≡ e)
      → AnsweredFrom {X = ℕ} st AskCount IsValue (Err e) old new l m
      → AnsweredFrom st (ask_list ask) these q old new l m
  collects-none (Ok y) handed a = absurd handed
  collects-none {e = e} (Err f) handed a = record {
    answer = tt;
    stop = tokens-map a.stop
        (λ o r h. subst (λ d. StopsWith st (ask_list ask) d o) (sym handed) (stops-count st ask e o h));
  }

-- ---- one thing after another, asked for together

-- the first of two things was not read
stops-first : {A B C : Type 0} (st : LogState Name) (ask : (A → RecordForm names) → RecordForm names)
    (also : (B → RecordForm names) → RecordForm names) (pair : A → B → C) (e : VerifyFault) (o : Rest)
    → StopsWith st ask e o → StopsWith st (λ next. ask (λ a. also (λ b. next (pair a b)))) e o
stops-first st ask also pair (verify.At line f) o h = λ first next. h first (λ a. also (λ b. next (pair a b)))
stops-first st ask also pair verify.ReadFault o h = tt
stops-first st ask also pair (verify.Memory memory) o h = tt

pub first-stop : {A B C X Z : Type 0} {st : LogState Name} {ask : (A → RecordForm names) → RecordForm names}
    (also : (B → RecordForm names) → RecordForm names) (pair : A → B → C) {is : X → A → Type 0}
    {all : Z → C → Type 0} {old new : Reader} {l m : Option (List ℕ)} {e : VerifyFault} (q : Result Z VerifyFault)
    → IsErrAnd q (λ f. f ≡ e) → AnsweredFrom st ask is (Err e) old new l m
    → AnsweredFrom st (λ next. ask (λ a. also (λ b. next (pair a b)))) all q old new l m
first-stop also pair (Ok z) handed g = absurd handed
first-stop {st = st} {ask = ask} also pair {e = e} (Err d) handed g = record {
  answer = tt;
  stop = tokens-map g.stop
      (λ o r h. subst (λ f. StopsWith st (λ next. ask (λ a. also (λ b. next (pair a b)))) f o) (sym handed)
      (stops-first st ask also pair e o h));
}

-- the second of two things was not read
stops-second : {A B C : Type 0} (st : LogState Name) (ask : (A → RecordForm names) → RecordForm names)
    (also : (B → RecordForm names) → RecordForm names) (pair : A → B → C) (e : VerifyFault) (a : A) (o r : Rest)
    → GoesOnWith st ask a o r → StopsWith st also e r
    → StopsWith st (λ next. ask (λ a. also (λ b. next (pair a b)))) e o
stops-second st ask also pair (verify.At line f) a o r k h = λ first next.
    k first (λ a. also (λ b. next (pair a b))) ∙ h first (λ b. next (pair a b))
stops-second st ask also pair verify.ReadFault a o r k h = tt
stops-second st ask also pair (verify.Memory memory) a o r k h = tt

module _ {A B C X Y Z : Type 0} {st was : LogState Name} {ask : (A → RecordForm names) → RecordForm names}
    {also : (B → RecordForm names) → RecordForm names} (pair : A → B → C)
    {is : X → A → Type 0} {are : Y → B → Type 0} {all : Z → C → Type 0} {old mid new : Reader}
    {l m n : Option (List ℕ)} (same : st ≡ was) {x : X} (g : AnsweredFrom was ask is (Ok x) old mid l m) where
  -- both were read
  pub both-read : {y : Y} {z : Z} → AnsweredFrom st also are (Ok y) mid new m n
      → ((a : A) (b : B) → is x a → are y b → all z (pair a b))
      → AnsweredFrom was (λ next. ask (λ a. also (λ b. next (pair a b)))) all (Ok z) old new l n
  both-read h f =
      let (a, first_is, first_reads) = g.answer in
      let (b, second_is, second_reads) = h.answer in
      record {
        answer = (
          pair a b,
          f a b first_is second_is,
          tokens-then first_reads second_reads (λ o r s e k. λ first next. e first (λ a. also (λ b. next (pair a b)))
              ∙ subst (λ t. GoesOnWith t also b r s) same k first (λ b. next (pair a b))),
        );
        stop = tt;
      }

  -- the second was not read: its fault is handed on
  pub second-stop : {e : VerifyFault} (q : Result Z VerifyFault) → IsErrAnd q (λ f. f ≡ e)
      → AnsweredFrom st also are (Err e) mid new m n
      → AnsweredFrom was (λ next. ask (λ a. also (λ b. next (pair a b)))) all q old new l n
  second-stop (Ok z) handed h = absurd handed
  second-stop {e = e} (Err d) handed h =
      let (a, found, reads) = g.answer in
      record {
        answer = tt;
        stop = tokens-then reads h.stop (λ o r s k t.
            subst (λ f. StopsWith was (λ next. ask (λ a. also (λ b. next (pair a b)))) f o) (sym handed)
            (stops-second was ask also pair e a o r k (subst (λ z. StopsWith z also e r) same t)));
      }

-- further lines were taken
pub advances-then : (old mid new : Reader) → Advances old mid → Advances mid new → Advances old new
advances-then old mid new a b =
    record { max = b.max ∙ a.max; number = omega (arith, a.number, b.number); limit = b.limit }
