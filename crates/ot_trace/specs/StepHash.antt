-- What the hash of a step is made of.
use Rattle.std.proofs.Common.{◌≡◌, Bool, true, false, ◌&&◌, ◌++◌}
use Rattle.std.proofs.Common.{refl, ap, sym, eqb-true, nat_eq, true≢false}
use Rattle.std.specs.Hash as fed
use Rattle.std.specs.Hash.{HashWrites}
use Rattle.std.specs.Cmp.Lexicographic.{pointwise}
use Rattle.std.proofs.lemmas.Bool.Decides.{Decides-int_eq}
use Rattle.std.proofs.lemmas.Slice.Eq.{bytes_eq-Decides}
use Rattle.ot_logic.specs.contracts.command.CmdPartialEq.TheImpl as words_test
use Rattle.ot_logic.specs.contracts.command.CmdHash.TheImpl as words_hash
use Rattle.ot_logic.specs.contracts.command.CmdHash.TheImpl.Laws.{respects_eq-law}
use Rattle.ot_trace.specs.OperandHash.{same_operands, operand_writes, operand_writes-alike}
use Rattle.ot_trace.specs.declared.step.Step.{Step}
use Rattle.ot_trace.specs.declared.step.Step.TheVariants.{Number, Name, Make, Define, Outcome}
use Rattle.ot_trace.specs.contracts.step.StepPartialEq.TheImpl as derived

-- what a word makes is told apart by its operands, since few words take the same ones; another step by its kind too
abbrev pub step_writes : Step → HashWrites
step_writes (Number k) = fed.u8 0 ++ fed.i64 k
step_writes (Name n) = fed.u8 1 ++ fed.u32 n
step_writes (Make w ops) = operand_writes ops
step_writes (Define w ops syms) = fed.u8 2 ++ (words_hash.ghosts.hash_input w ++ operand_writes ops.value.items)
step_writes (Outcome j d) = fed.u8 3 ++ (fed.u8 j ++ fed.u32 d)

parts : (a b : Bool) → (a && b) ≡ true → (a ≡ true) × (b ≡ true)
parts true true p = (refl, refl)
parts true false p = absurd (true≢false (sym p))
parts false b p = absurd (true≢false (sym p))

-- steps that pass the derived test are hashed alike
pub step_writes-alike : (s t : Step) → derived.ghosts.eq s t ≡ true → step_writes s ≡ step_writes t
step_writes-alike (Number j) (Number k) p = ap (λ k. step_writes (Number k)) ((Decides-int_eq j k).0 p)
step_writes-alike (Name m) (Name n) p = ap (λ n. step_writes (Name n)) (eqb-true m n p)
step_writes-alike (Make v xs) (Make w ys) p =
    let q = parts (words_test.ghosts.eq v w) (same_operands xs ys) p in
    operand_writes-alike xs ys q.1
step_writes-alike (Define v xs ss) (Define w ys rs) p =
    let q = parts (words_test.ghosts.eq v w)
    (pointwise nat_eq xs.value.items ys.value.items && pointwise nat_eq ss.value.items rs.value.items) p in
    let r = parts (pointwise nat_eq xs.value.items ys.value.items) (pointwise nat_eq ss.value.items rs.value.items) q.1 in
    let word = respects_eq-law v w q.0 in
    let ops = (bytes_eq-Decides xs.value.items ys.value.items).0 r.0 in
    λ i. fed.u8 2 ++ (word i ++ operand_writes (ops i))
step_writes-alike (Outcome i d) (Outcome j e) p =
    let q = parts (nat_eq i j) (nat_eq d e) p in
    λ k. step_writes (Outcome (eqb-true i j q.0 k) (eqb-true d e q.1 k))
step_writes-alike s t p = absurd (true≢false (sym p))
