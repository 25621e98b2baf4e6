-- Worked texts and their answers: refusals. Written by worked/make_rows.py.
use Rattle.std.specs.Prelude.{◌≡◌, false, [], codes}
use Rattle.cp_model.specs.Report.{Text}
use Rattle.cp_test_definitions.specs.Answers.{check_answer, run_answer}

abbrev pub byte_1 : Type 0
byte_1 = check_answer (codes "begin !") ≡ (codes "refused S1 at 6")

abbrev pub character_ordinal_1 : Type 0
character_ordinal_1 = check_answer (codes "begin display('(:128:)') end.") ≡ (codes "refused S3 at 14")

abbrev pub class_parameter_of_a_process_1 : Type 0
class_parameter_of_a_process_1 = check_answer (codes "type c = class; begin end; p = process(x: c); begin end; begin end.") ≡ (codes "refused C7 at 42")

abbrev pub declared_wait_1 : Type 0
declared_wait_1 = check_answer (codes "var wait: integer; begin end.") ≡ (codes "refused C1 at 4")

abbrev pub delay_in_a_process_1 : Type 0
delay_in_a_process_1 = check_answer (codes "begin delay(q) end.") ≡ (codes "refused C9 at 6")

abbrev pub empty_subrange_1 : Type 0
empty_subrange_1 = check_answer (codes "type t = array [2..1] of integer; begin end.") ≡ (codes "refused C3 at 19")

abbrev pub empty_text_1 : Type 0
empty_text_1 = check_answer [] ≡ (codes "refused Y2 at 0")

abbrev pub first_of_two_names_1 : Type 0
first_of_two_names_1 = check_answer (codes "begin a := 1; b := 2 end.") ≡ (codes "refused C1 at 6")

abbrev pub large_negative_number_1 : Type 0
large_negative_number_1 = check_answer (codes "begin display(-32768) end.") ≡ (codes "refused S4 at 15")

abbrev pub large_number_1 : Type 0
large_number_1 = check_answer (codes "begin display(32768) end.") ≡ (codes "refused S4 at 14")

abbrev pub large_process_1 : Type 0
large_process_1 = check_answer (codes "type t = array [0..32767, 0..1] of char; var v: t; begin end.") ≡ (codes "refused C13 at 51")

abbrev pub large_type_1 : Type 0
large_type_1 = check_answer (codes "type t = array [0..32767, 0..2] of char; begin end.") ≡ (codes "refused C13 at 9")

abbrev pub missing_point_1 : Type 0
missing_point_1 = check_answer (codes "begin end") ≡ (codes "refused Y2 at 9")

abbrev pub nesting_of_201_levels_1_text : Text
nesting_of_201_levels_1_text = (codes "begin begin begin begin begin begin begin begin begin begin begin begin begin begin begin begin begin begin begin begin begin begin begin begin begin begin begin begin begin begin begin begin begin begin begin begin begin begin begin begin begin begin begin begin begin begin begin begin begin begin begin begin begin begin begin begin begin begin begin begin begin begin begin begin begin begin begin begin begin begin begin begin begin begin begin begin begin begin begin begin begin begin begin begin begin begin begin begin begin begin begin begin begin begin begin begin begin begin begin begin begin begin begin begin begin begin begin begin begin begin begin begin begin begin begin begin begin begin begin begin begin begin begin begin begin begin begin begin begin begin begin begin begin begin begin begin begin begin begin begin begin begin begin begin begin begin begin begin begin begin begin begin begin begin begin begin begin begin begin begin begin begin begin begin begin begin begin begin begin begin begin begin begin begin begin begin begin begin begin begin begin begin begin begin begin begin begin begin begin begin begin begin begin begin begin begin begin begin begin begin begin end end end end end end end end end end end end end end end end end end end end end end end end end end end end end end end end end end end end end end end end end end end end end end end end end end end end end end end end end end end end end end end end end end end end end end end end end end end end end end end end end end end end end end end end end end end end end end end end end end end end end end end end end end end end end end end end end end end end end end end end end end end end end end end end end end end end end end end end end end end end end end end end end end end end end end end end end end end end end end end end end end end end end end end end end end end end end end end end end end end end end end end end end end end end end end end end end end end end end end end end end .")

abbrev pub nesting_of_201_levels_1 : Type 0
nesting_of_201_levels_1 = run_answer 0 10 1 false [] nesting_of_201_levels_1_text ≡ (codes "refused Y3 at 1200")

abbrev pub nesting_of_201_levels_2 : Type 0
nesting_of_201_levels_2 = check_answer nesting_of_201_levels_1_text ≡ (codes "refused Y3 at 1200")

abbrev pub nesting_of_parentheses_1 : Type 0
nesting_of_parentheses_1 = check_answer (codes "begin display((((((((((((((((((((((((((((((((((((((((((((((((((((((((((((((((((((((((((((((((((((((((((((((((((((((((((((((((((((((((((((((((((((((((((((((((((((((((((((((((((((((((((((((((((((((((((((((((((((((((1)))))))))))))))))))))))))))))))))))))))))))))))))))))))))))))))))))))))))))))))))))))))))))))))))))))))))))))))))))))))))))))))))))))))))))))))))))))))))))))))))))))))))))))))))))))))))))))))))))))))) end.") ≡ (codes "refused Y3 at 212")

abbrev pub number_of_arguments_1 : Type 0
number_of_arguments_1 = check_answer (codes "begin display(chr(1, y)) end.") ≡ (codes "refused C2 at 14")

abbrev pub open_comment_1 : Type 0
open_comment_1 = check_answer (codes "begin \"x") ≡ (codes "refused S2 at 6")

abbrev pub process_256_1 : Type 0
process_256_1 = check_answer (codes "type p = process; begin end; var v2, v3, v4, v5, v6, v7, v8, v9, v10, v11, v12, v13, v14, v15, v16, v17, v18, v19, v20, v21, v22, v23, v24, v25, v26, v27, v28, v29, v30, v31, v32, v33, v34, v35, v36, v37, v38, v39, v40, v41, v42, v43, v44, v45, v46, v47, v48, v49, v50, v51, v52, v53, v54, v55, v56, v57, v58, v59, v60, v61, v62, v63, v64, v65, v66, v67, v68, v69, v70, v71, v72, v73, v74, v75, v76, v77, v78, v79, v80, v81, v82, v83, v84, v85, v86, v87, v88, v89, v90, v91, v92, v93, v94, v95, v96, v97, v98, v99, v100, v101, v102, v103, v104, v105, v106, v107, v108, v109, v110, v111, v112, v113, v114, v115, v116, v117, v118, v119, v120, v121, v122, v123, v124, v125, v126, v127, v128, v129, v130, v131, v132, v133, v134, v135, v136, v137, v138, v139, v140, v141, v142, v143, v144, v145, v146, v147, v148, v149, v150, v151, v152, v153, v154, v155, v156, v157, v158, v159, v160, v161, v162, v163, v164, v165, v166, v167, v168, v169, v170, v171, v172, v173, v174, v175, v176, v177, v178, v179, v180, v181, v182, v183, v184, v185, v186, v187, v188, v189, v190, v191, v192, v193, v194, v195, v196, v197, v198, v199, v200, v201, v202, v203, v204, v205, v206, v207, v208, v209, v210, v211, v212, v213, v214, v215, v216, v217, v218, v219, v220, v221, v222, v223, v224, v225, v226, v227, v228, v229, v230, v231, v232, v233, v234, v235, v236, v237, v238, v239, v240, v241, v242, v243, v244, v245, v246, v247, v248, v249, v250, v251, v252, v253, v254, v255, v256: p; begin end.") ≡ (codes "refused C13 at 1451")

abbrev pub recursion_1 : Type 0
recursion_1 = check_answer (codes "procedure f; begin f end; begin end.") ≡ (codes "refused C4 at 19")

abbrev pub routine_without_entry_1 : Type 0
routine_without_entry_1 = check_answer (codes "type c = class; procedure h; begin end; begin end; var x: c; begin init x; x.h end.") ≡ (codes "refused C5 at 77")

abbrev pub token_behind_the_end_1 : Type 0
token_behind_the_end_1 = check_answer (codes "begin end. x") ≡ (codes "refused Y1 at 11")

abbrev pub unknown_name_1 : Type 0
unknown_name_1 = check_answer (codes "begin a := 1 end.") ≡ (codes "refused C1 at 6")

abbrev pub wait_in_a_class_1 : Type 0
wait_in_a_class_1 = check_answer (codes "type c = class; procedure entry e; begin wait end; begin end; begin end.") ≡ (codes "refused C9 at 41")

abbrev pub wait_in_a_monitor_1 : Type 0
wait_in_a_monitor_1 = check_answer (codes "type m = monitor; procedure entry e; begin wait end; begin end; begin end.") ≡ (codes "refused C9 at 43")

abbrev pub word_of_65_letters_1 : Type 0
word_of_65_letters_1 = check_answer (codes "var aaaaaaaaaaaaaaaaaaaaaaaaaaaaaaaaaaaaaaaaaaaaaaaaaaaaaaaaaaaaaaaaa: integer; begin end.") ≡ (codes "refused S5 at 4")

abbrev pub Refusals : Type 0
Refusals = byte_1 × character_ordinal_1 × class_parameter_of_a_process_1 × declared_wait_1 × delay_in_a_process_1 × empty_subrange_1 × empty_text_1 × first_of_two_names_1 × large_negative_number_1 × large_number_1 × large_process_1 × large_type_1 × missing_point_1 × nesting_of_201_levels_1 × nesting_of_201_levels_2 × nesting_of_parentheses_1 × number_of_arguments_1 × open_comment_1 × process_256_1 × recursion_1 × routine_without_entry_1 × token_behind_the_end_1 × unknown_name_1 × wait_in_a_class_1 × wait_in_a_monitor_1 × word_of_65_letters_1
