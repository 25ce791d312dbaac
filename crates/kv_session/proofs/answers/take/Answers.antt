use Rattle.std.proofs.Common.{◌≡◌, nat_eq, refl, sym, ◌∙◌}
use Rattle.std.specs.List.{list_any}
use Rattle.kv_session.specs.declared.answers.TheConstants.{FEATURE_TOKEN, FEATURE_JSON, FEATURE_COLLECTIONS}
use Rattle.kv_session.proofs.Granting.{found_flipped}
use Rattle.kv_session.proofs.answers.take.Goals as goal

pub returns : goal.returns
returns c =
    let codes = c.args.codes.now in
    let token : c.contains.result ≡ list_any (nat_eq FEATURE_TOKEN) codes = c.contains.ensures.value ∙ sym (found_flipped FEATURE_TOKEN codes) in
    let json : c.contains-2.result ≡ list_any (nat_eq FEATURE_JSON) codes = c.contains-2.ensures.value ∙ sym (found_flipped FEATURE_JSON codes) in
    let collections : c.contains-3.result ≡ list_any (nat_eq FEATURE_COLLECTIONS) codes = c.contains-3.ensures.value ∙ sym (found_flipped FEATURE_COLLECTIONS codes) in
    rw (token, json, collections) refl
