-- Names in the lines that say what stands for variables.
use Rattle.std.proofs.Common.{◌≡◌, [], ◌∷◌, refl, arith}
use Rattle.ot_logic.specs.Names.{Name, IsName, spelled}
use Rattle.ot_text.specs.Texts.{name_text}

-- a name is spelled
pub name-spelled : (n : Name) → IsName n → spelled n ≡ name_text n
name-spelled [] h = absurd (omega arith)
name-spelled (c ∷ cs) h = refl
