-- Exactly one outcome is due for the texts, and the number says which.
use Rattle.std.proofs.Common.{◌∙◌, ap, Some, inl, inr}
use Rattle.dme_c.proofs.Making.{made_features, made_others, one_client, no_client, refused_features, refused_window, refused_others}
use Rattle.dme_c.proofs.client_making.dme_client_new.Goals as goal

pub returns-in-Ok-clause-can : goal.returns-in-Ok-clause-can
returns-in-Ok-clause-can c = let laws = c.features_are_read_in_one_way.ensures in λ e due.
    inl (c.put.ensures ∙ ap (λ x. Some x) (one_client laws.one laws.never_both _ _ _ _ due c.in-Ok.ensures.client))

pub returns-in-Ok-clause-bad_features : goal.returns-in-Ok-clause-bad_features
returns-in-Ok-clause-bad_features c = let laws = c.features_are_read_in_one_way.ensures in
    made_features laws.one laws.never_both _ _ _ _ c.in-Ok.ensures.client

pub returns-in-Ok-clause-not_ours : goal.returns-in-Ok-clause-not_ours
returns-in-Ok-clause-not_ours c = let laws = c.features_are_read_in_one_way.ensures in
    made_others laws.one laws.never_both _ _ _ _ c.in-Ok.ensures.client

pub returns-in-Err-clause-can : goal.returns-in-Err-clause-can
returns-in-Err-clause-can c = let laws = c.features_are_read_in_one_way.ensures in λ e due.
    inr (c.refusal_number.ensures ∙ no_client laws.one laws.never_both _ _ _ _ _ c.in-Err.ensures.refused e due)

pub returns-in-Err-clause-bad_features : goal.returns-in-Err-clause-bad_features
returns-in-Err-clause-bad_features c = let laws = c.features_are_read_in_one_way.ensures in
    refused_features laws.one laws.never_both _ _ _ _ _ c.in-Err.ensures.refused _ c.refusal_number.ensures

pub returns-in-Err-clause-bad_window : goal.returns-in-Err-clause-bad_window
returns-in-Err-clause-bad_window c = let laws = c.features_are_read_in_one_way.ensures in
    refused_window laws.one laws.never_both _ _ _ _ _ c.in-Err.ensures.refused _ c.refusal_number.ensures

pub returns-in-Err-clause-not_ours : goal.returns-in-Err-clause-not_ours
returns-in-Err-clause-not_ours c = let laws = c.features_are_read_in_one_way.ensures in
    refused_others laws.one laws.never_both _ _ _ _ _ c.in-Err.ensures.refused _ c.refusal_number.ensures
