use Rattle.std.proofs.Common.{◌≡◌, codes, refl}
use Rattle.klp_tables.specs.Counted.{section_place}
use Rattle.klp_tables.proofs.kpatch.callback_sections.Goals as goal

pub returns : goal.returns
returns c =
    let pre : c.section_place.result ≡ section_place c.args.elf.now (codes ".kpatch.callbacks.pre_patch") = cc in
    let post : c.section_place-2.result ≡ section_place c.args.elf.now (codes ".kpatch.callbacks.post_patch") = cc in
    let preun : c.section_place-3.result ≡ section_place c.args.elf.now (codes ".kpatch.callbacks.pre_unpatch") = cc in
    let postun : c.section_place-4.result ≡ section_place c.args.elf.now (codes ".kpatch.callbacks.post_unpatch") = cc in
    rw (pre, post, preun, postun) refl
