use Rattle.ot_forms.proofs.SequentBack as sequents
use Rattle.ot_forms.proofs.laws.reads_back.Goals as goal

pub returns : goal.returns
returns c = λ hidden nt q h.
    let r = sequents.sequent-reads-back hidden nt q
    (λ t m. let p = h.hyps t m in record { named = p.named; fine = record { typed = p.typed; shallow = p.shallow } })
    (let p = h.concl in record { named = p.named; fine = record { typed = p.typed; shallow = p.shallow } }) in
    (r.hyps, r.same, r.read)
