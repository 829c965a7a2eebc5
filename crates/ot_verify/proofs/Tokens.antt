-- Laws of what was read of a log.
use Rattle.std.specs.Prelude.{Option}
use Rattle.std.proofs.Common.{ℕ, List}
use Rattle.ot_io.proofs.Reading.{Reads-then, Reads-map, Reads-none}
use Rattle.ot_verify.specs.Taking.{Rest, rest, ReadsTokens}
use Rattle.ot_verify.specs.declared.reader.Reader.{Reader}

-- what was read by two calls, one after the other
module _ {a b c : Reader} {l m n : Option (List ℕ)} {P Q R : Rest → Rest → Type 0} where
  pub tokens-then : ReadsTokens a b l m P → ReadsTokens b c m n Q → ((x y z : Rest) → P x y → Q y z → R x z)
      → ReadsTokens a c l n R
  tokens-then p q both = record {
    bytes = Reads-then a.lines.ended b.lines.ended c.lines.ended l m n (λ x y. P (rest a x) (rest b y))
        (λ y z. Q (rest b y) (rest c z)) (λ x z. R (rest a x) (rest c z))
        (λ x y z. both (rest a x) (rest b y) (rest c z)) p.bytes q.bytes;
  }

-- what holds of what was read
module _ {a b : Reader} {l m : Option (List ℕ)} {P Q : Rest → Rest → Type 0} where
  pub tokens-map : ReadsTokens a b l m P → ((x y : Rest) → P x y → Q x y) → ReadsTokens a b l m Q
  tokens-map p to = record {
    bytes = Reads-map a.lines.ended b.lines.ended l m (λ x y. P (rest a x) (rest b y))
        (λ x y. Q (rest a x) (rest b y)) (λ x y may. to (rest a x) (rest b y)) p.bytes;
  }

-- where nothing was read
module _ {a : Reader} {l : Option (List ℕ)} {P : Rest → Rest → Type 0} where
  pub tokens-none : ((x : Rest) → P x x) → ReadsTokens a a l l P
  tokens-none here = record {
    bytes = Reads-none a.lines.ended l (λ x y. P (rest a x) (rest a y)) (λ x may. here (rest a x));
  }
