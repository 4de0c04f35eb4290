-- The rows of a file of kpatch-build, section by section.
use Rattle.std.proofs.Common.{◌≡◌, ℕ, List, Result, Ok, Err, sym, ap, ◌∙◌, inl, inr, ◌⊎◌}
use Rattle.klp_tables.specs.Kpatch.{KpatchFacts, KpatchFile, Names, file_by}
use Rattle.klp_tables.specs.declared.fault.TableFault.{TableFault}
use Rattle.klp_tables.specs.declared.fault.TableFault.TheVariants.{NoMemory}

module _ (functions : Result (List KpatchFacts) TableFault) (pre post preun postun : Names) (fault : TableFault) where
  abbrev file : Result KpatchFile TableFault
  file = file_by functions pre post preun postun

  module _ (rows : List KpatchFacts) (read : functions ≡ Ok rows) where
    behind_rows : file ≡ file_by (Ok rows) pre post preun postun
    behind_rows = ap (λ r. file_by r pre post preun postun) read

    pub pre_fails : (fault ≡ NoMemory) ⊎ (pre ≡ Err fault) → (fault ≡ NoMemory) ⊎ (file_by functions pre post preun postun ≡ Err fault)
    pre_fails (inl e) = inl e
    pre_fails (inr e) = inr (behind_rows ∙ ap (λ r. file_by (Ok rows) r post preun postun) e)

    module _ (pres : List (List ℕ)) (pre_read : pre ≡ Ok pres) where
      behind_pre : file ≡ file_by (Ok rows) (Ok pres) post preun postun
      behind_pre = behind_rows ∙ ap (λ r. file_by (Ok rows) r post preun postun) pre_read

      pub post_fails : (fault ≡ NoMemory) ⊎ (post ≡ Err fault) → (fault ≡ NoMemory) ⊎ (file_by functions pre post preun postun ≡ Err fault)
      post_fails (inl e) = inl e
      post_fails (inr e) = inr (behind_pre ∙ ap (λ r. file_by (Ok rows) (Ok pres) r preun postun) e)

      module _ (posts : List (List ℕ)) (post_read : post ≡ Ok posts) where
        behind_post : file ≡ file_by (Ok rows) (Ok pres) (Ok posts) preun postun
        behind_post = behind_pre ∙ ap (λ r. file_by (Ok rows) (Ok pres) r preun postun) post_read

        pub preun_fails : (fault ≡ NoMemory) ⊎ (preun ≡ Err fault)
            → (fault ≡ NoMemory) ⊎ (file_by functions pre post preun postun ≡ Err fault)
        preun_fails (inl e) = inl e
        preun_fails (inr e) = inr (behind_post ∙ ap (λ r. file_by (Ok rows) (Ok pres) (Ok posts) r postun) e)

        module _ (preuns : List (List ℕ)) (preun_read : preun ≡ Ok preuns) where
          behind_preun : file ≡ file_by (Ok rows) (Ok pres) (Ok posts) (Ok preuns) postun
          behind_preun = behind_post ∙ ap (λ r. file_by (Ok rows) (Ok pres) (Ok posts) r postun) preun_read

          pub postun_fails : (fault ≡ NoMemory) ⊎ (postun ≡ Err fault)
              → (fault ≡ NoMemory) ⊎ (file_by functions pre post preun postun ≡ Err fault)
          postun_fails (inl e) = inl e
          postun_fails (inr e) = inr (behind_preun ∙ ap (λ r. file_by (Ok rows) (Ok pres) (Ok posts) (Ok preuns) r) e)

          pub all_read : (postuns : List (List ℕ)) → postun ≡ Ok postuns
              → file_by functions pre post preun postun ≡ file_by (Ok rows) (Ok pres) (Ok posts) (Ok preuns) (Ok postuns)
          all_read postuns e = behind_preun ∙ ap (λ r. file_by (Ok rows) (Ok pres) (Ok posts) (Ok preuns) r) e
