use Rattle.std.proofs.Common.{◌∙◌, refl, arith, ap, sym, subst}
use Rattle.ot_laws.proofs.Sets.{same_set-self}
use Rattle.ot_logic.specs.Lists.{IsMember}
use Rattle.ot_type.proofs.SubtypeLemmas.{above, above-le, above-last}
use Rattle.ot_term.proofs.Walking.{no_more}
use Rattle.ot_pretty.specs.Found.{symbols_with}
use Rattle.ot_pretty.proofs.Finding.{terms-below, looked-term, reached-same}
use Rattle.ot_pretty.proofs.search.Search.look_at_terms.Goals as goal
use Rattle.ot_logic.proofs.Members.{IsMember-last}

pub loop-id-init : goal.loop-id-init
loop-id-init c =
    record { search = c.requires; symbols = same_set-self (symbols_with c.args.kernel.now c.args.self.now) }

pub look_at_term-requires : goal.look_at_term-requires
look_at_term-requires c =
    c.loop-id.invariant.search.terms c.in-Some.id (subst (IsMember c.in-Some.id) (sym c.in-Some.ensures.removal)
    (IsMember-last c.in-Some.id c.pop_last.new.self.keys))

pub loop-id-smaller : goal.loop-id-smaller
loop-id-smaller c =
    let below = terms-below c.args.kernel.now c.in-Some.id c.in-Some.ensures.all_below c.in_ok-look_at_term.ensures in
    omega (
      arith,
      above-le c.look_at_term.new.self.terms.keys c.in-Some.id below,
      above-last c.pop_last.new.self.keys
          c.in-Some.id,
      ap above c.in-Some.ensures.removal,
    )

pub loop-id-preserved : goal.loop-id-preserved
loop-id-preserved c = looked-term c.args.kernel.now c.args.self.now c.loop-id.self _ c.look_at_term.new.self
    c.in-Some.id c.loop-id.invariant c.in-Some.ensures.removal refl refl c.in_ok-look_at_term.ensures

pub returns : goal.returns
returns c = record {
  reaches = reached-same c.args.kernel.now c.args.self.now c.loop-id.self _ c.in_default.ensures.unchanged refl refl
      c.loop-id.invariant;
  none = c.in_default.ensures.unchanged ∙ no_more c.loop-id.self.terms.keys c.in_default.ensures.variant.1;
}
