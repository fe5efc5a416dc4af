use Rattle.std.proofs.Common.{◌≡◌, ◌∙◌, ◌++◌, [], Err, ap, rules, append_assoc}
use Rattle.tc_config.specs.Configurations.{agent_names, centre_names}
use Rattle.tc_desk.specs.Logs.{is_blocked, rows_of}
use Rattle.tc_histline.specs.Text.{end_text, version_text}
use Rattle.tc_histtext.specs.Text.{histories_text, logs_text}
use Rattle.tc_histline.specs.declared.versions.Version.TheVariants.{Two}
use Rattle.tc_runner.specs.Cores.{histories}
use Rattle.tc_io.proofs.Flows.{amid}
use Rattle.tucson.proofs.Zipped.{text_is, then_last, then_more}
use Rattle.tucson.proofs.writing.write_text.Goals as goal

pub returns-in_err-write_version-clause-hands : goal.returns-in_err-write_version-clause-hands
returns-in_err-write_version-clause-hands g c =
    let run = c.args.run.now in
    let hs = histories_text (agent_names run.plan) (centre_names run.plan) (histories run.plan run.cores.items) in
    let ls = logs_text Two (agent_names run.plan) (rows_of run.logs.items) in
    let told : c.from_residual.result ≡ Err c.in_err-write_version.field-0.0 = search rules in
    amid (version_text Two) (hs ++ (ls ++ (end_text (is_blocked (rows_of c.args.run.now.logs.items)) ++ []))) _ _ c.write_version.result c.from_residual.result c.in_err-write_version.field-0.0
    c.in_err-write_version.was told c.write_version.ensures

pub returns-in_err-write_histories-clause-hands : goal.returns-in_err-write_histories-clause-hands
returns-in_err-write_histories-clause-hands g c =
    let run = c.args.run.now in
    let hs = histories_text (agent_names run.plan) (centre_names run.plan) (histories run.plan run.cores.items) in
    let ls = logs_text Two (agent_names run.plan) (rows_of run.logs.items) in
    let written = text_is _ _ _ _ c.write_histories.result (ap (λ cores. histories_text (agent_names run.plan) (centre_names run.plan) (histories run.plan cores)) c.deref.ensures.value) c.write_histories.ensures in
    let rest = ls ++ (end_text (is_blocked (rows_of c.args.run.now.logs.items)) ++ []) in
    let told : c.from_residual-in_err-write_histories.result ≡ Err c.in_err-write_histories.field-0.0 = search rules in
    text_is _ _ _ _ c.from_residual-in_err-write_histories.result (append_assoc (version_text Two) hs rest)
    (amid (version_text Two ++ hs) rest _ _ c.write_histories.result c.from_residual-in_err-write_histories.result c.in_err-write_histories.field-0.0
    c.in_err-write_histories.was told (then_more (version_text Two) hs _ _ _ c.write_version.result c.write_histories.result c.in_ok-write_version.was c.write_version.ensures written))

pub returns-in_err-write_logs-clause-hands : goal.returns-in_err-write_logs-clause-hands
returns-in_err-write_logs-clause-hands g c =
    let run = c.args.run.now in
    let hs = histories_text (agent_names run.plan) (centre_names run.plan) (histories run.plan run.cores.items) in
    let ls = logs_text Two (agent_names run.plan) (rows_of run.logs.items) in
    let written = text_is _ _ _ _ c.write_histories.result (ap (λ cores. histories_text (agent_names run.plan) (centre_names run.plan) (histories run.plan cores)) c.deref.ensures.value) c.write_histories.ensures in
    let logged = text_is _ _ _ _ c.write_logs.result (ap (λ logs. logs_text Two (agent_names run.plan) (rows_of logs)) c.deref-2.ensures.value) c.write_logs.ensures in
    let rest = end_text (is_blocked (rows_of c.args.run.now.logs.items)) ++ [] in
    let told : c.from_residual-in_err-write_logs.result ≡ Err c.in_err-write_logs.field-0.0 = search rules in
    let begun = then_more (version_text Two) hs _ _ _ c.write_version.result c.write_histories.result c.in_ok-write_version.was c.write_version.ensures written in
    text_is _ _ _ _ c.from_residual-in_err-write_logs.result
    (append_assoc (version_text Two ++ hs) ls rest ∙ append_assoc (version_text Two) hs (ls ++ rest))
    (amid ((version_text Two ++ hs) ++ ls) rest _ _ c.write_logs.result c.from_residual-in_err-write_logs.result c.in_err-write_logs.field-0.0
    c.in_err-write_logs.was told (then_more (version_text Two ++ hs) ls _ _ _ c.write_histories.result c.write_logs.result c.in_ok-write_histories.was begun logged))

pub returns-clause-hands : goal.returns-clause-hands
returns-clause-hands g c =
    let run = c.args.run.now in
    let hs = histories_text (agent_names run.plan) (centre_names run.plan) (histories run.plan run.cores.items) in
    let ls = logs_text Two (agent_names run.plan) (rows_of run.logs.items) in
    let written = text_is _ _ _ _ c.write_histories.result (ap (λ cores. histories_text (agent_names run.plan) (centre_names run.plan) (histories run.plan cores)) c.deref.ensures.value) c.write_histories.ensures in
    let logged = text_is _ _ _ _ c.write_logs.result (ap (λ logs. logs_text Two (agent_names run.plan) (rows_of logs)) c.deref-2.ensures.value) c.write_logs.ensures in
    let ended = text_is _ _ _ _ c.write_end.result (ap end_text c.requires.blocked) c.write_end.ensures.hands in
    let begun = then_more (version_text Two) hs _ _ _ c.write_version.result c.write_histories.result c.in_ok-write_version.was c.write_version.ensures written in
    let more = then_more (version_text Two ++ hs) ls _ _ _ c.write_histories.result c.write_logs.result c.in_ok-write_histories.was begun logged in
    then_last (version_text Two) hs ls (end_text (is_blocked (rows_of c.args.run.now.logs.items))) _ _ c.write_end.result
    (then_more ((version_text Two ++ hs) ++ ls) (end_text (is_blocked (rows_of c.args.run.now.logs.items))) _ _ _ c.write_logs.result c.write_end.result c.in_ok-write_logs.was more ended)
