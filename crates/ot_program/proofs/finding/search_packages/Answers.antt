use Rattle.std.proofs.Common.{◌≡◌, ◌∙◌, ℕ, List, [], inl, refl, sym, ap, subst, take, drop, suc, map, arith}
use Rattle.std.specs.Prelude.{string_bytes}
use Rattle.std.proofs.lemmas.List.{take_all}
use Rattle.std.proofs.lemmas.Result.{err_from_is_err_and}
use Rattle.ot_logic.specs.PlainTrees.{term_of_tree}
use Rattle.ot_logic.specs.Lists.{IsMember}
use Rattle.ot_io.specs.Causes.{CountRose}
use Rattle.ot_program.specs.Answer.{FileFailed}
use Rattle.ot_program.specs.Searches.{AreSearched}
use Rattle.ot_program.proofs.NotedLemmas.{rose_later, file_later, keeps}
use Rattle.ot_program.proofs.Worlds.{is_told, folder_map, folder_none, folder_then}
use Rattle.ot_program.proofs.FindingLemmas.{none_searched, one_searched, package_ends, all_searched}
use Rattle.ot_program.proofs.FindingLemmas.{texts_cut, texts_more, middle_member, no_texts}
use Rattle.ot_program.proofs.finding.search_packages.Goals as goal

pub each-init : goal.each-init
each-init g c = record {
  searched =
      λ told may. folder_none told _
      (none_searched c.args.packages.now (term_of_tree c.args.pattern.now) c.args.search.now);
  files = record {
    keeps = record { same_folder = refl; later = omega arith; later_misses = omega arith };
    closed = inl refl;
  };
  none = λ none. refl;
}

pub search_package-requires : goal.search_package-requires
search_package-requires g c =
    let k = c.each.full-index in
    let xs = c.args.fulls.now in
    let full = c.full-item.result in
    let cut = texts_cut xs k full c.each-test.true c.full-item.is in
    rw c.deref.ensures (c.requires.full (string_bytes full)
    (subst (IsMember (string_bytes full)) (sym cut)
    (middle_member (map string_bytes (take k xs)) (map string_bytes (drop (suc k) xs)) (string_bytes full))))

pub returns-in_err-search_package-clause-searched : goal.returns-in_err-search_package-clause-searched
returns-in_err-search_package-clause-searched g c =
    let k = c.each.full-index in
    let xs = c.args.fulls.now in
    let full = string_bytes c.full-item.result in
    let front = map string_bytes (take k xs) in
    let back = map string_bytes (drop (suc k) xs) in
    let packages = c.args.packages.now in
    let at = g.F.Source.at c.search_package.new.files in
    let f0 = g.F.Source.faults c.args.files.now in
    let f1 = g.F.Source.faults c.each.files in
    let f2 = g.F.Source.faults c.search_package.new.files in
    let m0 = g.F.Source.misses c.args.files.now in
    let m1 = g.F.Source.misses c.each.files in
    let m2 = g.F.Source.misses c.search_package.new.files in
    let cut = texts_cut xs k c.full-item.result c.each-test.true c.full-item.is in
    let kept = c.each.invariant.files.keeps in
    let p = err_from_is_err_and c.from_residual.result c.from_residual.ensures.1 in
    λ told may.
    let same = is_told (map string_bytes xs ≡ []) (g.F.Source.folder c.args.files.now) told
    (λ none. no_texts front back full (sym cut ∙ none)) may in
    let ended = rw (c.deref.ensures, kept.same_folder, sym same) at c.in_err-search_package.ensures.searched in
    rw (p.1, p.2) (folder_then told _ _ _
    (λ May Before Behind first second a h. package_ends packages (map string_bytes xs) front back full
    (term_of_tree c.args.pattern.now) c.args.search.now c.each.search c.search_package.new.search
    (FileFailed at f1 f2) (FileFailed at f0 f2) (CountRose m1 m2) (CountRose m0 m2) May Before Behind first second
    (sym cut) (file_later at f0 f1 f2 kept.later) (rose_later m0 m1 m2 kept.later_misses) a
    c.in_err-search_package.field-0.0 h)
    (c.each.invariant.searched told may) ended)

pub each-preserved : goal.each-preserved
each-preserved g c =
    let k = c.each.full-index in
    let xs = c.args.fulls.now in
    let full = string_bytes c.full-item.result in
    let front = map string_bytes (take k xs) in
    let packages = c.args.packages.now in
    let back = map string_bytes (drop (suc k) xs) in
    let pattern = term_of_tree c.args.pattern.now in
    let cut = texts_cut xs k c.full-item.result c.each-test.true c.full-item.is in
    record {
      searched = λ told may.
          let same = is_told (map string_bytes xs ≡ []) (g.F.Source.folder c.args.files.now) told
          (λ none. no_texts front back full (sym cut ∙ none)) may in
          let one = rw (c.deref.ensures, c.each.invariant.files.keeps.same_folder, sym same)
          at c.in_ok-search_package.ensures.searched in
          folder_then told _ _ _
          (λ May Before Behind first second a h.
          subst (λ fulls. AreSearched packages fulls pattern c.args.search.now c.search_package.new.search May)
          (texts_more xs k c.full-item.result c.each-test.true c.full-item.is)
          (one_searched packages May Before Behind first second c.find_law.ensures.one_more front full pattern
          c.args.search.now c.each.search c.search_package.new.search a h.searched)) (c.each.invariant.searched told may) one;
      files =
          keeps g.F.Source.folder g.F.Source.faults g.F.Source.misses g.F.Source.left c.args.files.now c.each.files
          c.search_package.new.files c.each.invariant.files c.in_ok-search_package.ensures.files;
      none = λ none.
          absurd (no_texts front back full (sym cut ∙ none));
    }

pub returns-clause-searched : goal.returns-clause-searched
returns-clause-searched g c =
    let xs = c.args.fulls.now in
    let whole = ap (map string_bytes) (take_all c.each.full-index xs c.each-test.false) in
    λ told may.
    folder_map told _ _
    (λ May a. all_searched c.args.packages.now (map string_bytes xs) (term_of_tree c.args.pattern.now)
    c.args.search.now c.each.search _ _ May
    (subst (λ fulls. AreSearched c.args.packages.now fulls (term_of_tree c.args.pattern.now) c.args.search.now
    c.each.search May) whole a)) (c.each.invariant.searched told may)
