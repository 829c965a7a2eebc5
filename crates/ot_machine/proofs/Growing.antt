-- What rests on a basis rests on a larger one.
use Rattle.std.specs.Prelude.{List}
use Rattle.std.specs.List.{All}
use Rattle.ot_logic.specs.Names.{Name}
use Rattle.ot_logic.specs.declared.command.Cmd.{Cmd}
use Rattle.ot_logic.specs.declared.command.Cmd.TheVariants as words
use Rattle.ot_trace.specs.Origins.{Origin, Origins, Number, Named, Make, Define, Outcome, NoOrigins, MoreOrigins}
use Rattle.ot_machine.specs.Objects.{Object}
use Rattle.ot_machine.specs.States.{Entry, Export, Given}
use Rattle.ot_machine.specs.Lawful.{Basis, IsLarger, IsTaken, RestsOn, AreOn}
use Rattle.ot_machine.specs.Lawful.{Fits, EntryFits, GivenFits, IsLawfulExport}

module _ (b c : Basis) (h : IsLarger b c) where
  pub taken-more : (w : Cmd) (os : Origins Name) → IsTaken b w os → IsTaken c w os
  taken-more words.Axiom os t = h.axioms (Make words.Axiom os) t
  taken-more w os t = tt

  mutual
    pub rests-more : (o : Origin Name) → RestsOn b o → RestsOn c o
    rests-more (Number k) r = tt
    rests-more (Named n) r = h.names n r
    rests-more (Make w os) r = (are-more os r.0, taken-more w os r.1)
    rests-more (Define w os) r = are-more os r
    rests-more (Outcome j d) r = (h.definitions d r.0, rests-more d r.1)

    pub are-more : (os : Origins Name) → AreOn b os → AreOn c os
    are-more NoOrigins r = tt
    are-more (MoreOrigins o os) r = (rests-more o r.0, are-more os r.1)

  pub fits-more : (o : Origin Name) (v : Object) → Fits b o v → Fits c o v
  fits-more o v f = record { value_is = f.value_is; rests = rests-more o f.rests }

  pub entries-more : (es : List Entry) → All (EntryFits b) es → All (EntryFits c) es
  entries-more es all = λ i e p. fits-more _ _ (all i e p)

  pub givens-more : (gs : List Given) → All (GivenFits b) gs → All (GivenFits c) gs
  givens-more gs all = λ i g p. fits-more _ _ (all i g p)

  pub exports-more : (es : List Export) → All (IsLawfulExport b) es → All (IsLawfulExport c) es
  exports-more es all = λ i e p. let x = all i e p in record {
    proved = fits-more _ _ x.proved;
    objects = x.objects;
    hyps = x.hyps;
    are_terms = x.are_terms;
    listed = fits-more _ _ x.listed;
    concl = x.concl;
    stated = fits-more _ _ x.stated;
  }

-- a run that doesn't change, and one after another
pub same-basis : (b : Basis) → IsLarger b b
same-basis b = record { axioms = λ o i. i; definitions = λ o i. i; names = λ n i. i }

pub larger-then : (b c d : Basis) → IsLarger b c → IsLarger c d → IsLarger b d
larger-then b c d h k = record {
  axioms = λ o i. k.axioms o (h.axioms o i);
  definitions = λ o i. k.definitions o (h.definitions o i);
  names = λ n i. k.names n (h.names n i);
}
