-- One more installed patch that the patch can live with, or one that it can't.
use Rattle.std.proofs.Common.{◌≡◌, ◌+◌, ◌<◌, ℕ, suc, List, ◌∷◌, drop, length, get_or, sym, ap, ◌∙◌, arith}
use Rattle.std.specs.List.{list_all}
use Rattle.std.proofs.Math.Seq.{drop-cons}
use Rattle.klp_types.specs.Compatible.{SystemState, version_among, is_compatible_with}
use Rattle.klp_catalog.specs.States.{is_compatible}
use Rattle.klp_catalog.specs.Stored.{StoredPatch}
use Rattle.klp_catalog.proofs.PatchLemmas.{lives_with, lives_by, lives_with_none, compatible_next}
use Rattle.klp_catalog.proofs.catalog.Catalog.is_compatible.Goals as goal
use Rattle.klp_catalog.proofs.catalog.Catalog.is_compatible.Goals.{in-Some-get, in-None}

next_other : (installed : List ℕ) (i j other : ℕ) → i < length installed → suc i ≡ j → other ≡ get_or installed i other → drop i installed ≡ other ∷ drop j installed
next_other installed i j other below next is = drop-cons installed i other below ∙ (λ k. sym is k ∷ drop (next k) installed)

pub loop-other-preserved : goal.loop-other-preserved
loop-other-preserved g c =
    let catalog = c.args.self.now in
    let other = c.other-item.result in
    let installed = c.args.installed.now in
    let i = c.loop-other.other-index in
    let split = next_other installed i (i + 1) other c.loop-other-test.true (omega arith) c.other-item.is in
    let lives : c.match-get-2.lives ≡ lives_with catalog c.args.patch other =
    elim c.match-get-2.branch [
      | in-Some-get w ↦ w.lives-is ∙ w.is_compatible_with_all-lives.ensures
          ∙ ap (list_all (λ (s : SystemState). is_compatible_with c.in-Some.own.now.replace s (version_among s.id c.in-Some.own.now.states))) (w.deref.ensures ∙ ap (λ (p : StoredPatch). p.states) w.other.view_is)
          ∙ lives_by catalog c.args.patch other c.in-Some.own.now w.in-Some-get.other.now c.in-Some.ensures.found w.in-Some-get.ensures.found
      | in-None w ↦ w.lives-is ∙ sym (lives_with_none catalog c.args.patch other w.in-None.ensures.found)
    ]
    in
    sym (compatible_next catalog c.args.patch other (drop (i + 1) installed) (sym lives ∙ c.if-not-lives.false))
    ∙ ap (is_compatible catalog c.args.patch) (sym split) ∙ c.loop-other.invariant

pub returns-in_default : goal.returns-in_default
returns-in_default g c = absurd (omega (arith, c.requires.patch, c.in_default.ensures.found.past))
