-- A class as one number: that of its shape, and that of its list.
use Rattle.std.specs.Prelude.{◌≡◌, ℕ, ◌+◌, ◌*◌, ◌/◌, ◌%◌, ◌<◌}
use Rattle.std.proofs.lemmas.Nat.{div-mul-add, mod-mul-add, div-add-mod'}

abbrev pub class_number : ℕ → ℕ → ℕ
class_number shape list = list * 4294967296 + shape

abbrev pub shape_number : ℕ → ℕ
shape_number c = c % 4294967296

abbrev pub list_number : ℕ → ℕ
list_number c = c / 4294967296

pub shape-number : (shape list : ℕ) → shape < 4294967296 → shape_number (class_number shape list) ≡ shape
shape-number shape list h = mod-mul-add list 4294967296 shape h

pub list-number : (shape list : ℕ) → shape < 4294967296 → list_number (class_number shape list) ≡ list
list-number shape list h = div-mul-add list 4294967296 shape h

pub number-parts : (c : ℕ) → class_number (shape_number c) (list_number c) ≡ c
number-parts c = div-add-mod' c 4294967296
