-- A name that is read piece by piece.
use Rattle.std.specs.Prelude.{◌≡◌, ℕ, List}
use Rattle.std.proofs.Common.{refl, sym, ◌∙◌, ap}
use Rattle.ot_logic.specs.Names.{Name}
use Rattle.ot_forms.specs.Reading.{Reason, Reading, Got, Halted, mapped}

pub start : (g : Name → Name) (o : Reading Name) → ((n : Name) → g n ≡ n) → mapped g o ≡ o
start g (Got n s) h = ap (λ z. Got z s) (h n)
start g (Halted k s) h = refl

both : (f g h : Name → Name) (o : Reading Name) → ((n : Name) → g n ≡ f (h n)) → mapped g o ≡ mapped f (mapped h o)
both f g h (Got n s) p = ap (λ z. Got z s) (p n)
both f g h (Halted k s) p = refl

-- a piece more
pub goes : (f g h : Name → Name) (o r t : Reading Name) → mapped f r ≡ t → r ≡ mapped h o
    → ((n : Name) → g n ≡ f (h n)) → mapped g o ≡ t
goes f g h o r t w e p = both f g h o p ∙ ap (mapped f) (sym e) ∙ w

-- the last piece
pub ends : (f : Name → Name) (r t : Reading Name) (n m : Name) (s : List ℕ) → mapped f r ≡ t → r ≡ Got n s → m ≡ f n
    → t ≡ Got m s
ends f r t n m s w e p = sym w ∙ ap (mapped f) e ∙ ap (λ z. Got z s) (sym p)

pub stops : (f : Name → Name) (r t : Reading Name) (k : Reason) (s : List ℕ) → mapped f r ≡ t → r ≡ Halted k s
    → t ≡ Halted k s
stops f r t k s w e = sym w ∙ ap (mapped f) e
