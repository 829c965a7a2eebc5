-- Laws of what was read.
use Rattle.std.proofs.Common.{◌≡◌, ◌++◌, ◌∙◌, ℕ, List, [], Bool, true, false, Option, Some, None, sym, ap, subst, refl}
use Rattle.std.proofs.Common.{append_assoc, append-nil, length-append, length, take, ◌+◌, ◌≤◌, arith}
use Rattle.std.proofs.lemmas.List.{take_all, take-append-le}
use Rattle.std.specs.Prelude.{IfSome}
use Rattle.std.specs.Io.KnownBytes.{Consumes, IsAtEnd, Keeps}
use Rattle.std.proofs.KnownBytes.{Consumes-nil, Consumes-trans}
use Rattle.ot_io.specs.Reading.{MayFollow, Reads, HasRead, OfTold}

-- what may follow the second bytes may follow the first with the second before it
pub follows-behind : (ended ended' : Bool) (read rest : List ℕ) → (ended ≡ true → (ended' ≡ true) × (read ≡ []))
    → MayFollow ended' rest → MayFollow ended (read ++ rest)
follows-behind ended ended' read rest stays may =
    λ e. ap (λ z. z ++ rest) (stays e).1 ∙ may (stays e).0

-- what was read by two calls, one after the other
pub Reads-then : (a b c : Bool) (l l' l'' : Option (List ℕ)) (P Q R : List ℕ → List ℕ → Type 0)
    → ((x y z : List ℕ) → P x y → Q y z → R x z) → Reads a b l l' P → Reads b c l' l'' Q → Reads a c l l'' R
Reads-then a b c l l' l'' P Q R both p q = record {
  read = p.read ++ q.read;
  lost = Consumes-trans l l' l'' p.read q.read p.lost q.lost;
  stays = λ e.
      let first = p.stays e in
      let second = q.stays first.0 in
      (second.0, ap (λ z. z ++ q.read) first.1 ∙ second.1);
  end = λ before e. q.end (p.end before) e;
  holds = λ rest may.
      subst (λ z. R z rest) (sym (append_assoc p.read q.read rest))
      (both (p.read ++ (q.read ++ rest)) (q.read ++ rest) rest
      (p.holds (q.read ++ rest) (follows-behind b c q.read rest q.stays may)) (q.holds rest may));
}

-- what holds of what was read
pub Reads-map : (a b : Bool) (l l' : Option (List ℕ)) (P Q : List ℕ → List ℕ → Type 0)
    → ((x y : List ℕ) → MayFollow b y → P x y → Q x y) → Reads a b l l' P → Reads a b l l' Q
Reads-map a b l l' P Q to p = record {
  read = p.read;
  lost = p.lost;
  stays = p.stays;
  end = p.end;
  holds = λ rest may. to (p.read ++ rest) rest may (p.holds rest may);
}

-- where nothing was read
pub Reads-none : (a : Bool) (l : Option (List ℕ)) (P : List ℕ → List ℕ → Type 0)
    → ((x : List ℕ) → MayFollow a x → P x x) → Reads a a l l P
Reads-none a l P here = record {
  read = [];
  lost = Consumes-nil l;
  stays = λ e. (e, refl);
  end = λ before e. before e;
  holds = λ rest may. here rest may;
}

-- of a source that tells its bytes
pub Reads-told : (a b : Bool) (l l' : Option (List ℕ)) (P : List ℕ → List ℕ → Type 0)
    → (a ≡ true → IsAtEnd l) → Reads a b l l' P → OfTold l l' P
Reads-told a b None l' P before p = tt
Reads-told a b (Some all) None P before p = absurd p.lost
Reads-told a b (Some all) (Some rest) P before p =
    subst (λ z. P z rest) (sym p.lost) (p.holds rest (λ e. p.end before e))

pub HasRead-told : (l l' : Option (List ℕ)) (E : Type 0) (P : List ℕ → List ℕ → Type 0) → HasRead l l' E P
    → OfTold l l' P
HasRead-told l l' E P h = Reads-told false h.ended l l' P (λ e. cc) h.reads

-- of all the bytes of a source that is told
pub HasRead-if : (l l' : Option (List ℕ)) (E : Type 0) (P : List ℕ → Type 0) → HasRead l l' E (λ all rest. P all)
    → IfSome l P
HasRead-if None l' E P h = tt
HasRead-if (Some all) None E P h = absurd (HasRead-told (Some all) None E (λ all rest. P all) h)
HasRead-if (Some all) (Some rest) E P h = HasRead-told (Some all) (Some rest) E (λ all rest. P all) h

-- which has none left where the call read to the end
pub HasRead-end : {l l' : Option (List ℕ)} {E : Type 0} {P : List ℕ → List ℕ → Type 0} → HasRead l l' E P → E
    → IsAtEnd l'
HasRead-end h e = h.reads.end (λ e. cc) (h.to_end e)

pub HasRead-map : {l l' : Option (List ℕ)} {E E' : Type 0} {P Q : List ℕ → List ℕ → Type 0} → HasRead l l' E P
    → (E' → E) → ((all rest : List ℕ) → P all rest → Q all rest) → HasRead l l' E' Q
HasRead-map {l = l} {l' = l'} {P = P} {Q = Q} h less to = record {
  ended = h.ended;
  to_end = λ e. h.to_end (less e);
  reads = Reads-map false h.ended l l' P Q (λ all rest may. to all rest) h.reads;
}

-- what one call read from the start
pub HasRead-of : (ended : Bool) (l l' : Option (List ℕ)) (E : Type 0) (P : List ℕ → List ℕ → Type 0) (read : List ℕ)
    → Consumes l l' read → (E → ended ≡ true) → (ended ≡ true → IsAtEnd l')
    → ((rest : List ℕ) → MayFollow ended rest → P (read ++ rest) rest) → HasRead l l' E P
HasRead-of ended l l' E P read lost to_end end holds = record {
  ended = ended;
  to_end = to_end;
  reads = record { read = read; lost = lost; stays = λ e. cc; end = λ before. end; holds = holds };
}

-- a front that is as long as was asked for
pub HasRead-front : (l l' : Option (List ℕ)) (E : Type 0) (read : List ℕ) (max : ℕ) → length read ≡ max + 1
    → (E → ⊥) → Consumes l l' read
    → HasRead l l' E (λ left rest. (read ≡ take (max + 1) left) × (length left ≤ length rest + (max + 1)))
HasRead-front l l' E read max long none lost =
    HasRead-of false l l' E _ read lost (λ e. absurd (none e)) (λ e. cc)
    (λ rest may. (
      sym (take_all (max + 1) read (omega (arith, long))) ∙ sym (take-append-le (max + 1) read rest (omega (arith, long))),
      omega (arith, long, length-append read rest),
    ))

-- all bytes, of which there are no more than were asked for
pub HasRead-whole : (l l' : Option (List ℕ)) (E : Type 0) (read : List ℕ) (max : ℕ) → length read ≤ max + 1
    → Consumes l l' read → IsAtEnd l'
    → HasRead l l' E (λ left rest. (read ≡ take (max + 1) left) × (length left ≤ length rest + (max + 1)))
HasRead-whole l l' E read max few lost end =
    HasRead-of true l l' E _ read lost (λ e. refl) (λ e. end)
    (λ rest may.
    let none = may refl in (
      sym (take_all (max + 1) read few) ∙ ap (take (max + 1)) (sym (append-nil read) ∙ ap (λ z. read ++ z) (sym none)),
      omega (arith, few, length-append read rest),
    ))

-- a read that took no byte
pub Consumes-none : (a b c : Option (List ℕ)) (read buf : List ℕ) {n : ℕ} → n ≡ 0 → Consumes a b read
    → Consumes b c (take n buf) → Consumes a c read
Consumes-none a b c read buf none p q =
    subst (Consumes a c) (append-nil read)
    (Consumes-trans a b c read [] p (subst (λ n. Consumes b c (take n buf)) none q))
